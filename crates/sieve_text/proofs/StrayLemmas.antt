-- A text without octet 0 and CR has no stray octet.
use Rattle.std.proofs.Common.{◌≡◌, ℕ, suc, ◌<◌, Bool, true, false, List, [], ◌∷◌, length, get_or, None, refl, sym, ap, arith}
use Rattle.std.specs.Prelude.{◌==◌, ◌&&◌, ◌||◌, not}
use Rattle.memchr.specs.Find.{IsFirstByte, is_byte2}
use Rattle.sieve_text.specs.Octets.{begins_with, is_stray, stray_len}

neither : (zero cr following : Bool) → (zero || cr ≡ true → ⊥) → zero || (cr && following) ≡ false
neither true cr following h = absurd (h refl)
neither false true following h = absurd (h refl)
neither false false following h = refl

none_stray : (bs : List ℕ) → ((k : ℕ) → k < length bs → is_byte2 0 13 (get_or bs k 0) ≡ true → ⊥) → stray_len bs ≡ length bs
unfolding stray_len
none_stray [] h = refl
none_stray (b ∷ bs) h =
    let clean : is_stray b bs ≡ false = neither (b == 0) (b == 13) (not (begins_with 10 bs)) (h 0 (omega arith)) in
    let rest = none_stray bs (λ k below same. h (suc k) (omega arith) same) in
    rw clean (ap suc rest)

pub stray_unfound : (bs : List ℕ) → IsFirstByte (is_byte2 0 13) bs None → length bs ≡ stray_len bs
stray_unfound bs none = sym (none_stray bs (λ k below same. none k (omega arith) below same))
