use Rattle.std.proofs.Common.{◌≡◌, ℕ, ◌≤◌, ◌<◌, false, eqb, ◌||◌, ◌&&◌, length, get_or}
use Rattle.sieve_match.proofs.places.keep_equal.Given as goal

abbrev pub invariant-loop-place : goal.invariant-loop-place
invariant-loop-place l = record {
  long : length l.fits ≡ length l.fn.fits;
  kept : (k : ℕ) → k < l.place → get_or l.fits k false
      ≡ (get_or l.fn.fits k false && (eqb (get_or l.octets k 0) l.first || eqb (get_or l.octets k 0) l.second));
  left : (k : ℕ) → l.place ≤ k → get_or l.fits k false ≡ get_or l.fn.fits k false;
  none : l.any ≡ false → (k : ℕ) → k < l.place → get_or l.fits k false ≡ false;
}
