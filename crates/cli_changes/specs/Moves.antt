-- Which of the records that are found get another class.
use Rattle.std.specs.Prelude.{◌≡◌, ◌&&◌, ◌||◌, ℕ, Bool, true, false, List, ◌++◌, ◌∷◌, [], length, map, filter, if◌then◌else◌}
use Rattle.std.proofs.Common.{sym, ap, ap₂, refl, ◌∙◌}
use Rattle.std.proofs.Math.Bool.{or_assoc}
use Rattle.std.specs.List.{list_any}
use Rattle.std.proofs.lemmas.List.{append_assoc, append-nil, map-append}
use Rattle.std.proofs.lemmas.List.Folds.{list_any-append}
use Rattle.choice_words.specs.declared.numbers.TypedNumbers.{TypedNumbers}
use Rattle.class_plan.specs.Plans.{has}
use Rattle.cli_choice.specs.Typed.{is_one}
use Rattle.record_archive.specs.Archive.{Archive, Record}
use Rattle.record_archive.specs.Refiling.{in_class}
use Rattle.record_choice.specs.Disposals.{is_one_of}
use Rattle.record_choice.specs.Entries.{RecordEntry, entry_view}
use Rattle.record_choice.specs.declared.entry.RecordEntry as own
use Rattle.cli_console.specs.Finds.{HasSingles, numbers_of}
use Rattle.cli_changes.specs.declared.refile.MoveTally.{MoveTally}
use Rattle.cli_changes.specs.declared.refile.Movers.{Movers}
use Rattle.cli_changes.specs.declared.refile.Moves.{Moves}
use Rattle.cli_changes.specs.DueToday.{due_in_both, none_due}
use Rattle.cli_changes.specs.Holdings.{more_numbers}
use Rattle.cli_changes.specs.Refilings.{moves}
use Rattle.cli_changes.specs.Series.{sum_of}

-- THE RECORDS OF THESE NUMBERS ARE IN ANOTHER CLASS. All else is as before.
abbrev pub moved_to : (to : List ℕ) → List ℕ → Archive → Archive
moved_to to ns a = record a { records = map (λ (r : Record). if is_one_of ns r.number then in_class to r else r) a.records }

-- THE NUMBERS OF THOSE that move
abbrev pub moving_numbers : (to : List ℕ) → List RecordEntry → List ℕ
moving_numbers to es = numbers_of (filter (moves to) es)

-- a record is destroyed, and its number is typed by itself
abbrev pub is_refused : List TypedNumbers → RecordEntry → Bool
is_refused typed e = list_any (is_one e.number) typed && e.destroyed

-- A REFILING ENDS WELL only where the plan has the class, each number that is typed by itself is found, and none of these is destroyed
pub record RefilesWell (to : List ℕ) (typed : List TypedNumbers) (found : List RecordEntry) (a : Archive) : Type 0 where
  pub class : has a.plan.rows to ≡ true
  pub each_found : HasSingles typed found
  pub accepted : list_any (is_refused typed) found ≡ false

-- one of records that were listed before ends well only where the plan has the class, and these are still the records that move
pub record RefilesListed (to : List ℕ) (listed : List ℕ) (found : List RecordEntry) (a : Archive) : Type 0 where
  pub class : has a.plan.rows to ≡ true
  pub are : moving_numbers to found ≡ listed

-- ---- what is told of them together

-- nothing moves
abbrev pub no_moves : MoveTally
no_moves = record { count = 0; before = none_due; after = none_due; is_refused = false }

-- how many move, how many of these are due before and after, and whether one that is typed is refused
abbrev pub tally_of : Moves → MoveTally
tally_of m = record { count = length m.numbers.items; before = m.before; after = m.after; is_refused = m.is_refused }

-- THOSE OF TWO STORES: the sums, and refused where one is
abbrev pub moves_in_both : MoveTally → MoveTally → MoveTally
moves_in_both x y = record {
  count = sum_of x.count y.count;
  before = due_in_both x.before y.before;
  after = due_in_both x.after y.after;
  is_refused = x.is_refused || y.is_refused;
}

-- ---- what is added

-- the number of a record that moves is added
pub record MovesOne (old : Moves) (n : ℕ) (new : Moves) : Type 0 where
  pub to : new.to.now ≡ old.to.now
  pub typed : new.typed.now ≡ old.typed.now
  pub numbers : new.numbers.items ≡ old.numbers.items ++ n ∷ []
  pub refused : new.is_refused ≡ old.is_refused

-- these records were looked at: the numbers of those that move were added, and it was noted whether one was refused
pub record AddsMoving (old : Moves) (es : List own.RecordEntry) (new : Moves) : Type 0 where
  pub to : new.to.now ≡ old.to.now
  pub typed : new.typed.now ≡ old.typed.now
  pub numbers : new.numbers.items ≡ old.numbers.items ++ moving_numbers old.to.now (map entry_view es)
  pub refused : new.is_refused ≡ (old.is_refused || list_any (is_refused old.typed.now) (map entry_view es))

or_none : (x : Bool) → x ≡ (x || false)
or_none true = refl
or_none false = refl

pub none_moving : (x : Moves) → AddsMoving x [] x
none_moving x = record { to = refl; typed = refl; numbers = sym (append-nil x.numbers.items); refused = or_none x.is_refused }

pub more_moving : (x y z : Moves) (es fs : List own.RecordEntry) → AddsMoving x es y → AddsMoving y fs z → AddsMoving x (es ++ fs) z
more_moving x y z es fs one other =
    let front = map entry_view es in
    let back = map entry_view fs in
    let joined = sym (map-append entry_view es fs) in
    record {
      to = other.to ∙ one.to;
      typed = other.typed ∙ one.typed;
      numbers = other.numbers ∙ ap₂ (λ l t. l ++ moving_numbers t back) one.numbers one.to
          ∙ append_assoc x.numbers.items (moving_numbers x.to.now front) (moving_numbers x.to.now back)
          ∙ ap (λ l. x.numbers.items ++ l) (more_numbers (moves x.to.now) front back ∙ ap (moving_numbers x.to.now) joined);
      refused = other.refused ∙ ap₂ (λ b t. b || list_any (is_refused t) back) one.refused one.typed
          ∙ or_assoc x.is_refused (list_any (is_refused x.typed.now) front) (list_any (is_refused x.typed.now) back)
          ∙ ap (λ b. x.is_refused || b) (sym (list_any-append (is_refused x.typed.now) front back)
          ∙ ap (list_any (is_refused x.typed.now)) joined);
    }

-- the numbers of those of these records that move were added, and no other
pub record AddsMovers (old : Movers) (es : List own.RecordEntry) (new : Movers) : Type 0 where
  pub to : new.to.now ≡ old.to.now
  pub numbers : new.numbers.items ≡ old.numbers.items ++ moving_numbers old.to.now (map entry_view es)

pub no_movers : (x : Movers) → AddsMovers x [] x
no_movers x = record { to = refl; numbers = sym (append-nil x.numbers.items) }

pub more_movers : (x y z : Movers) (es fs : List own.RecordEntry) → AddsMovers x es y → AddsMovers y fs z → AddsMovers x (es ++ fs) z
more_movers x y z es fs one other =
    let front = map entry_view es in
    let back = map entry_view fs in
    record {
      to = other.to ∙ one.to;
      numbers = other.numbers ∙ ap₂ (λ l t. l ++ moving_numbers t back) one.numbers one.to
          ∙ append_assoc x.numbers.items (moving_numbers x.to.now front) (moving_numbers x.to.now back)
          ∙ ap (λ l. x.numbers.items ++ l) (more_numbers (moves x.to.now) front back
          ∙ ap (moving_numbers x.to.now) (sym (map-append entry_view es fs)));
    }
