-- On which records a hold is placed, or ended.
use Rattle.std.specs.Prelude.{◌≡◌, ◌||◌, ◌&&◌, not, ℕ, Bool, true, false, List, ◌++◌, ◌∷◌, [], map, filter, Result, Some}
use Rattle.std.specs.Prelude.{if◌then◌else◌}
use Rattle.std.proofs.Common.{sym, ap, ap₂, refl, ◌∙◌}
use Rattle.std.proofs.lemmas.List.{append_assoc, append-nil, map-append}
use Rattle.std.proofs.lemmas.List.Elements.{filter-append}
use Rattle.std.specs.Str.{bytes_eq}
use Rattle.choice_words.specs.Readings.{reads_as_any_numbers}
use Rattle.choice_words.specs.declared.numbers.TypedNumbers.{TypedNumbers}
use Rattle.cli_choice.specs.declared.holds.Change.{Change}
use Rattle.cli_choice.specs.declared.holds.Change.TheVariants.{Place, End}
use Rattle.cli_choice.specs.Holds.{is_changed, is_meant}
use Rattle.record_archive.specs.Archive as archive
use Rattle.record_archive.specs.Archive.{Archive, Hold}
use Rattle.record_archive.specs.declared.fault.ArchiveRefusal.{ArchiveRefusal}
use Rattle.record_choice.specs.Choices.{Choice, every_live_record, named}
use Rattle.record_choice.specs.Disposals.{is_one_of}
use Rattle.record_choice.specs.Entries.{RecordEntry, entry_view}
use Rattle.record_choice.specs.declared.entry.RecordEntry as own
use Rattle.cli_console.specs.Finds.{HasSingles, entries_of, numbers_of}
use Rattle.cli_console.specs.declared.failure.Status.{Status}
use Rattle.cli_console.specs.declared.failure.Status.TheVariants.{Usage, BadData}
use Rattle.cli_changes.specs.declared.holds.HoldTally.{HoldTally}
use Rattle.cli_changes.specs.declared.holds.Meant.{Meant}
use Rattle.cli_changes.specs.Series.{changed_in_both, sum_of}

-- ---- what is changed

-- the archive's command for the hold of a name
abbrev pub hold_command : Change → (name : List ℕ) → ℕ → Archive → Result Archive ArchiveRefusal
hold_command Place name n a = archive.hold a name n
hold_command End name n a = archive.release a name n

abbrev pub hold_of : (name : List ℕ) → ℕ → Hold
hold_of name n = record { name = name; number = n }

-- THE HOLD IS PLACED on the records of these numbers, or ended on them. All else is as before.
abbrev pub changed_on : Change → (name : List ℕ) → List ℕ → Archive → Archive
changed_on Place name ns a = record a { holds = a.holds ++ map (hold_of name) ns }
changed_on End name ns a = record a { holds = filter (λ (h : Hold). not (bytes_eq h.name name && is_one_of ns h.number)) a.holds }

-- ---- on which records

-- THE NUMBERS OF THOSE that are tried, of records that are found
abbrev pub meant_numbers : Change → (name : List ℕ) → List TypedNumbers → List RecordEntry → List ℕ
meant_numbers change name typed es = numbers_of (filter (is_meant change name typed) es)

-- THE NUMBERS OF THOSE that are changed: live ones without the hold on which it is placed, and ones with it on which it ends
abbrev pub changed_numbers : Change → (name : List ℕ) → List RecordEntry → List ℕ
changed_numbers change name es = numbers_of (filter (is_changed change name) es)

-- the live records that have a hold of a name
abbrev pub chosen_by : List ℕ → Choice
chosen_by name = record every_live_record { held = Some (named name) }

abbrev pub held_by : List ℕ → Archive → List RecordEntry
held_by name a = entries_of (chosen_by name) a

-- there is one at least
abbrev pub is_any_of : {X : Type 0} → List X → Bool
is_any_of [] = false
is_any_of (x ∷ xs) = true

-- where a hold ends, a live record has it
abbrev pub IsHeld : Change → (name : List ℕ) → Archive → Type 0
IsHeld Place name a = Unit {0}
IsHeld End name a = is_any_of (held_by name a) ≡ true

-- THE END OF A HOLD THAT NO LIVE RECORD HAS is a wrong command line where its name reads as numbers of records, and else bad data
abbrev pub status_of_none : (name : List ℕ) → Status
status_of_none name = if reads_as_any_numbers name then Usage else BadData

-- A CHANGE ENDS WELL only where each number that is typed by itself is found, the archive refuses none of these, and a live record has the
-- hold that ends
pub record HoldsWell (change : Change) (name : List ℕ) (typed : List TypedNumbers) (found : List RecordEntry) (a : Archive) : Type 0 where
  pub each_found : HasSingles typed found
  pub accepted : meant_numbers change name typed found ≡ changed_numbers change name found
  pub held : IsHeld change name a

-- ---- what it comes to

-- WHAT A CHANGE CAME TO on the records that are found: whether it was done on one of them; and none was refused only where each number that
-- is typed by itself is found, and the archive refuses none
pub record HoldsAs (tally : HoldTally) (change : Change) (name : List ℕ) (typed : List TypedNumbers) (found : List RecordEntry)
    : Type 0 where
  pub each_found : tally.changed.is_refused ≡ false → HasSingles typed found
  pub any : tally.changed.is_any ≡ is_any_of (changed_numbers change name found)
  pub accepted : tally.changed.is_refused ≡ false → meant_numbers change name typed found ≡ changed_numbers change name found

-- nothing was tried
abbrev pub none_tried : HoldTally
none_tried = record { changed = record { is_any = false; is_refused = false }; passed = 0; destroyed = 0 }

-- WHAT IT CAME TO in two stores, up to the greatest counts
abbrev pub in_both : HoldTally → HoldTally → HoldTally
in_both x y = record {
  changed = changed_in_both x.changed y.changed;
  passed = sum_of x.passed y.passed;
  destroyed = sum_of x.destroyed y.destroyed;
}

-- ---- the numbers of those that are meant

-- these records were looked at, and the numbers of those that are meant were added
pub record AddsMeant (old : Meant) (es : List own.RecordEntry) (new : Meant) : Type 0 where
  pub change : new.change ≡ old.change
  pub name : new.name.now ≡ old.name.now
  pub typed : new.typed.now ≡ old.typed.now
  pub numbers : new.numbers.items ≡ old.numbers.items ++ meant_numbers old.change old.name.now old.typed.now (map entry_view es)

pub none_meant : (x : Meant) → AddsMeant x [] x
none_meant x = record { change = refl; name = refl; typed = refl; numbers = sym (append-nil x.numbers.items) }

-- the numbers of those of some records that are so, and then of those of others
pub more_numbers : (is_so : RecordEntry → Bool) (es fs : List RecordEntry)
    → numbers_of (filter is_so es) ++ numbers_of (filter is_so fs) ≡ numbers_of (filter is_so (es ++ fs))
more_numbers is_so es fs =
    sym (ap numbers_of (filter-append is_so es fs) ∙ map-append (λ (e : RecordEntry). e.number) (filter is_so es) (filter is_so fs))

pub more_meant : (x y z : Meant) (es fs : List own.RecordEntry) → AddsMeant x es y → AddsMeant y fs z → AddsMeant x (es ++ fs) z
more_meant x y z es fs one other = record {
  change = other.change ∙ one.change;
  name = other.name ∙ one.name;
  typed = other.typed ∙ one.typed;
  numbers = other.numbers
      ∙ ap (λ l. y.numbers.items ++ l) (ap₂ (λ c n. meant_numbers c n y.typed.now (map entry_view fs)) one.change one.name
      ∙ ap (λ t. meant_numbers x.change x.name.now t (map entry_view fs)) one.typed)
      ∙ ap (λ l. l ++ meant_numbers x.change x.name.now x.typed.now (map entry_view fs)) one.numbers
      ∙ append_assoc x.numbers.items (meant_numbers x.change x.name.now x.typed.now (map entry_view es))
      (meant_numbers x.change x.name.now x.typed.now (map entry_view fs))
      ∙ ap (λ l. x.numbers.items ++ l) (more_numbers (is_meant x.change x.name.now x.typed.now) (map entry_view es) (map entry_view fs)
      ∙ ap (meant_numbers x.change x.name.now x.typed.now) (sym (map-append entry_view es fs)));
}

-- ---- whether records were handed over

pub none_seen : (x : Bool) → x ≡ (x || is_any_of {X = own.RecordEntry} [])
none_seen true = refl
none_seen false = refl

pub more_seen : (x y z : Bool) (es fs : List own.RecordEntry) → y ≡ (x || is_any_of es) → z ≡ (y || is_any_of fs)
    → z ≡ (x || is_any_of (es ++ fs))
more_seen x y z [] fs one other = other ∙ ap (λ b. b || is_any_of fs) (one ∙ sym (none_seen x))
more_seen true y z (e ∷ es) fs one other = other ∙ ap (λ b. b || is_any_of fs) one
more_seen false y z (e ∷ es) fs one other = other ∙ ap (λ b. b || is_any_of fs) one

-- ---- the numbers of records that are listed

pub none_listed : (x : List ℕ) → x ≡ x ++ numbers_of (map entry_view [])
none_listed x = sym (append-nil x)

pub more_listed : (x y z : List ℕ) (es fs : List own.RecordEntry) → y ≡ x ++ numbers_of (map entry_view es)
    → z ≡ y ++ numbers_of (map entry_view fs) → z ≡ x ++ numbers_of (map entry_view (es ++ fs))
more_listed x y z es fs one other =
    other ∙ ap (λ l. l ++ numbers_of (map entry_view fs)) one
    ∙ append_assoc x (numbers_of (map entry_view es)) (numbers_of (map entry_view fs))
    ∙ ap (λ l. x ++ l) (sym (ap numbers_of (map-append entry_view es fs)
    ∙ map-append (λ (e : RecordEntry). e.number) (map entry_view es) (map entry_view fs)))
