-- The rounds of an intake, one for each volume into which it captures.
use Rattle.std.specs.Prelude.{◌≡◌, ℕ, ◌+◌, ◌-◌, ◌^◌, min, Bool, true, false, not, List, [], filter, String, string_bytes}
use Rattle.std.specs.Prelude.{Option, Some, None, Result}
use Rattle.std.specs.Cmp.Lexicographic.{slice_cmp}
use Rattle.std.specs.Ordering.{match_ordering, nat_cmp}
use Rattle.cli_console.specs.declared.failure.Failure.{Failure}
use Rattle.mail_intake.specs.declared.intake.Taking.{Taking}
use Rattle.mail_intake.specs.declared.tally.Tally.{Tally}
use Rattle.cli_changes.specs.Endings.{IsEndOf, status_after}
use Rattle.cli_changes.specs.declared.rounds.Rounds.{Rounds}

-- WHAT BECAME OF THE MESSAGES of two rounds, up to the greatest number of 64 bits
abbrev pub together : (one other : Tally) → Tally
together one other = record {
  taken = min (one.taken + other.taken) (2 ^ 64 - 1);
  unfit = min (one.unfit + other.unfit) (2 ^ 64 - 1);
  given_up = min (one.given_up + other.given_up) (2 ^ 64 - 1);
}

-- a name comes before another one, by its octets
abbrev pub is_before : (name next : List ℕ) → Bool
is_before name next = match_ordering (slice_cmp nat_cmp name next) true false false

-- the names that do not come before this one
abbrev pub from_on : {Z : Type 0} → (next : List ℕ) → List (String Z) → List (String Z)
from_on next names = filter (λ n. not (is_before (string_bytes n) next)) names

-- THE NAMES THAT ARE LEFT for a round: all of them in the first one, and else those from the one on at which the last one ended
abbrev pub left_names : {Z : Type 0} → (next : Option (String Z)) → List (String Z) → List (String Z)
left_names None names = names
left_names (Some next) names = from_on (string_bytes next) names

-- NO ROUND WAS MADE: nothing is counted, said or remembered
pub record IsBeginning (rounds : Rounds) : Type 0 where
  pub begun : rounds.begun ≡ None
  pub tally : rounds.tally ≡ record { taken = 0; unfit = 0; given_up = 0 }
  pub next : rounds.next ≡ None
  pub told : rounds.told.items ≡ []
  pub has_spoken : rounds.has_spoken ≡ false
  pub has_complained : rounds.has_complained ≡ false

-- THE LAST ROUND ENDS as all of them: with the failure of its last call, or with the status of what became of all messages
abbrev pub IsEndAfter : (before : Tally) → Taking Failure → Result (Unit {0}) Failure → Type 0
IsEndAfter before taking done = IsEndOf taking.end (status_after (together before taking.tally) taking.nameless) done
