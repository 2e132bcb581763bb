-- What a call for the next page answers.
use Rattle.std.specs.Prelude.{◌≡◌, ◌<◌, ℕ, List, [], Vec, Option, Some, None, IsSome, IfSome, map, option_map}
use Rattle.std.specs.declared.alloc.Global.{Global}
use Rattle.record_archive.specs.Archive.{Archive}
use Rattle.record_choice.specs.Choices.{Choice, Question}
use Rattle.record_choice.specs.Entries.{RecordEntry, entry_view}
use Rattle.record_choice.specs.declared.entry.RecordEntry as own
use Rattle.record_choice.specs.Walks.{IsPageOf}

-- the entries of a page
abbrev pub page_view : Option (Vec own.RecordEntry Global) → Option (List RecordEntry)
page_view o = option_map (λ v. map entry_view v.items) o

-- the records of a page, and none where there is no page
abbrev pub records_of : Option (List RecordEntry) → List RecordEntry
records_of None = []
records_of (Some page) = page

-- it goes on above where it stood, if it does
abbrev pub IsFurther : (from next : Option ℕ) → Type 0
IsFurther from next = IfSome next (λ m. IfSome from (λ n. n < m))

-- A walk that goes on from a number gives a page of what is chosen, and goes on after it. Only at its end it gives none, and
-- is there still. So the pages of all calls are those of a walk (`IsWalk`), and joined they are what is chosen.
abbrev pub IsTurn : Question → Choice → Archive → (from : Option ℕ) → (page : Option (List RecordEntry)) → (next : Option ℕ) → Type 0
IsTurn q c a from None next = (from ≡ None) × (next ≡ None)
IsTurn q c a from (Some page) next = IsSome from × IsPageOf q c a from page next × IsFurther from next

-- A search does so up to its last number: it also gives none where that is passed, and stays where it is.
abbrev pub IsSearchTurn : Question → Choice → Archive → (last : ℕ) → (from : Option ℕ) → (page : Option (List RecordEntry)) → (next : Option ℕ)
    → Type 0
IsSearchTurn q c a last from None next = IfSome from (λ n. last < n) × (next ≡ from)
IsSearchTurn q c a last from (Some page) next = IsSome from × IsPageOf q c a from page next × IsFurther from next
