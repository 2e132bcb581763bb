use Rattle.std.proofs.Common.{◌≡◌, ℕ, ◌<◌, false, length, get_or}
use Rattle.sieve_match.proofs.places.set_all.Given as goal

abbrev pub invariant-loop-flag : goal.invariant-loop-flag
invariant-loop-flag l = record {
  long : length l.flags ≡ length l.fn.flags;
  set : (k : ℕ) → k < l.flag-index → get_or l.flags k false ≡ l.value;
}
