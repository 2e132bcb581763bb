-- How pages of records are joined.
use Rattle.std.specs.Prelude.{◌≡◌, ℕ, ◌+◌, ◌^◌, nat_lt, not, ◌&&◌, Bool, true, false, if◌then◌else◌, List, [], ◌∷◌, ◌++◌, map, filter}
use Rattle.std.specs.Prelude.{Option, Some, None, Result, Ok, Err, flat_map}
use Rattle.record_archive.specs.Archive.{Record, Archive, IsArchive, message}
use Rattle.record_archive.specs.declared.fault.ArchiveRefusal.{ArchiveRefusal}
use Rattle.record_choice.specs.Choices.{Choice, Question, is_yes, meets_asked, chosen}
use Rattle.record_choice.specs.Entries.{RecordEntry, entry_of, records_from}

-- the answer for the message of a number; where there is none to be read, it is not yes
abbrev pub is_told : Result (Option (List ℕ)) ArchiveRefusal → (List ℕ → Bool) → Bool
is_told (Ok message) asks = is_yes asks message
is_told (Err f) asks = false

-- the answer for the message of an entry
abbrev pub shows_answer : Archive → (List ℕ → Bool) → RecordEntry → Bool
shows_answer a asks e = not e.destroyed && is_told (message a e.number) asks

abbrev pub kept_if : Bool → RecordEntry → List RecordEntry
kept_if true e = e ∷ []
kept_if false e = []

-- the records from where a walk goes on, if it does
abbrev pub records_after : Archive → Option ℕ → List Record
records_after a None = []
records_after a (Some n) = records_from a n

-- the chosen ones of these
abbrev pub chosen_after : Question → Choice → Archive → Option ℕ → List Record
chosen_after q c a next = filter (meets_asked q c a) (records_after a next)

-- the number of the last entry, or what came before
abbrev pub last_of : Option ℕ → List RecordEntry → Option ℕ
last_of before [] = before
last_of before (e ∷ es) = last_of (Some e.number) es

-- the number above one, if it is one of 32 bits
abbrev pub above : Option ℕ → Option ℕ
above None = None
above (Some n) = if nat_lt (n + 1) (2 ^ 32) then Some (n + 1) else None

-- A PAGE, and what is chosen after it, are what is chosen from where the walk stands
abbrev pub IsPageOf : Question → Choice → Archive → Option ℕ → List RecordEntry → Option ℕ → Type 0
IsPageOf q c a from page next = page ++ map (entry_of a) (chosen_after q c a next) ≡ map (entry_of a) (chosen_after q c a from)

-- the pages of a walk from where it stands to its end, which it comes to: after the last page it goes on nowhere
abbrev pub IsWalk : Question → Choice → Archive → Option ℕ → List (List RecordEntry) → Type 0
IsWalk q c a None [] = Unit {0}
IsWalk q c a (Some n) [] = ⊥
IsWalk q c a None (page ∷ pages) = ⊥
IsWalk q c a (Some n) (page ∷ pages) = (next : Option ℕ) × IsPageOf q c a (Some n) page next × IsWalk q c a next pages

-- THE LAW: the pages of a whole walk, joined, are the chosen records
abbrev pub WalkJoins : Question → Choice → Archive → List (List RecordEntry) → Type 0
WalkJoins q c a pages = IsArchive a → IsWalk q c a (Some 1) pages → flat_map (λ page. page) pages ≡ map (entry_of a) (chosen q c a)
