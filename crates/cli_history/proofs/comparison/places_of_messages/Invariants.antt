use Rattle.std.proofs.Common.{◌≡◌, ℕ, slice_get, take}
use Rattle.std.specs.BTreeMap.{get}
use Rattle.std.specs.Option.{option_and_then}
use Rattle.std.specs.Ordering.{nat_cmp}
use Rattle.record_judge.specs.declared.sealed.SealedMessage.{SealedMessage}
use Rattle.cli_history.specs.Made.{last_numbered}
use Rattle.cli_history.proofs.comparison.places_of_messages.Given as goal

abbrev pub invariant-loop-place : goal.invariant-loop-place
invariant-loop-place l = (n : ℕ) → option_and_then (slice_get l.messages) (get nat_cmp l.places n)
    ≡ last_numbered (λ (x : SealedMessage). x.number) (take l.place l.messages) n
