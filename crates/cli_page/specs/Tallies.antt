-- The counts of all classes.
use Rattle.std.specs.Prelude.{◌≡◌, ℕ, List, ◌<◌, slice_get, slice_set, Some, length, map}
use Rattle.std.specs.List.{HoldsAt}
use Rattle.class_plan.specs.Plans.{Row}
use Rattle.cli_page.specs.Counting.{counted, is_dated, no_records, one_if}
use Rattle.cli_page.specs.declared.counts.Seen.{Seen}
use Rattle.cli_page.specs.declared.counts.Counts.{Counts}
use Rattle.cli_page.specs.declared.tally.ClassCounts.{ClassCounts}
use Rattle.cli_page.specs.declared.tally.Tally.{Tally}

-- the class at a place has the path
abbrev pub HasPathAt : List ℕ → List ClassCounts → ℕ → Type 0
HasPathAt path classes i = (i < length classes) × HoldsAt (λ c. c.path.items ≡ path) classes i

abbrev pub are_dated : Seen → ℕ
are_dated s = one_if (is_dated s)

-- a class with its counts
abbrev pub ClassSeen : Type 0
ClassSeen = List ℕ × Counts

abbrev pub class_seen : ClassCounts → ClassSeen
class_seen c = (c.path.items, c.counts)

-- a class of a plan, without records
abbrev pub class_of_none : Row → ClassSeen
class_of_none row = (row.path, no_records)

abbrev pub counts_of : List ClassCounts → List Counts
counts_of classes = map (λ c. c.counts) classes

abbrev pub paths_of : List ClassCounts → List (List ℕ)
paths_of classes = map (λ c. c.path.items) classes

-- a record of the class of a path is counted in the class that has this path, and among all; no other class changes
pub record CountsOne (path : List ℕ) (seen : Seen) (old new : Tally) : Type 0 where
  pub place : ℕ
  pub counts : Counts
  pub its_path : HasPathAt path old.classes.items place
  pub was : slice_get (counts_of old.classes.items) place ≡ Some counts
  pub classes : counts_of new.classes.items ≡ slice_set (counts_of old.classes.items) place (counted old.day counts seen)
  pub paths : paths_of new.classes.items ≡ paths_of old.classes.items
  pub all : new.all ≡ counted old.day old.all seen
  pub day : new.day ≡ old.day
