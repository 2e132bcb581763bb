-- Payloads that are read, and commands whose payloads are there.
use Rattle.std.proofs.Common.{◌≡◌, ℕ, ◌+◌, ◌-◌, ◌<◌, ◌≤◌, ◌++◌, [], List, Bool, true, false, length, take, drop, arith}
use Rattle.std.proofs.Common.{ap, sym, ◌∙◌, refl, length-append}
use Rattle.std.specs.Prelude.{nat_le, Some, replicate}
use Rattle.std.specs.Bool.{then_some}
use Rattle.std.proofs.lemmas.Bool.Decides.{nat_tests}
use Rattle.std.proofs.lemmas.List.{length-take, length-replicate, length-drop, take-append-le, drop_at, drop-drop}
use Rattle.std.proofs.Math.Seq.{take-add}
use Rattle.desk_commands.specs.Standing.{Command}
use Rattle.desk_commands.specs.Payloads.{IsOf}
use Rattle.desk_commands.specs.declared.payload.Payload.{Payload}
use Rattle.session_protocol.specs.Payloads.{AreRead, IsRead, IsWithin, Takes}
use Rattle.session_protocol.specs.Session.{Got, Call, with_payload, with_payloads}

fits_whole : (size length : ℕ) → size ≤ length → nat_le size length ≡ true
fits_whole size length a = grind (arith, nat_tests)

-- a command with two payloads
pub both_heard : (sizes : ℕ × ℕ) (command : List ℕ → List ℕ → Command) (first second old new : List ℕ)
    → length first ≡ sizes.0 → (first ≡ take sizes.0 old) × Takes (sizes.0 + sizes.1) (first ++ second) old new
    → with_payloads sizes.0 sizes.1 command old ≡ Got (Call (command first second)) new
both_heard sizes command first second old new size (is, (fits, whole, left)) =
    let both : first ++ second ≡ first ++ take sizes.1 (drop sizes.0 old) = whole ∙ take-add sizes.0 sizes.1 old
    ∙ ap (λ x. x ++ take sizes.1 (drop sizes.0 old)) (sym is) in
    let next : second ≡ take sizes.1 (drop sizes.0 old) = sym (drop_at first second sizes.0 size)
    ∙ ap (drop sizes.0) both ∙ drop_at first (take sizes.1 (drop sizes.0 old)) sizes.0 size in
    rw (fits_whole (sizes.0 + sizes.1) (length old) fits)
    (ap (λ x. Got (Call (command x (take sizes.1 (drop sizes.0 old)))) (drop (sizes.0 + sizes.1) old)) (sym is)
    ∙ ap (λ x. Got (Call (command first x)) (drop (sizes.0 + sizes.1) old)) (sym next)
    ∙ ap (λ rest. Got (Call (command first second)) rest) (sym left))

-- and with one
pub one_heard : (size : ℕ) (command : List ℕ → Command) (octets old new : List ℕ) → Takes size octets old new
    → with_payload size command old ≡ Got (Call (command octets)) new
one_heard size command octets old new (fits, is, left) =
    rw (fits_whole size (length old) fits)
    (ap (λ x. Got (Call (command x)) (drop size old)) (sym is) ∙ ap (λ rest. Got (Call (command octets)) rest) (sym left))

-- octets of that size, which are the first of an input where it has as many
abbrev padded : (size : ℕ) → List ℕ → List ℕ
padded size input = take size (input ++ replicate size 0)

padded_length : (size : ℕ) (input : List ℕ) → length (padded size input) ≡ size
padded_length size input = omega (
  arith,
  length-take size (input ++ replicate size 0),
  length-append input (replicate size 0),
  length-replicate {A = ℕ} size 0,
)

-- a payload that is read through and dropped
pub read_dropped : {tells : Type 0} (read : Bool) (p : Payload) (size limit : ℕ) (old new : List ℕ)
    → ((octets : List ℕ) → length octets ≡ size → IsOf limit p octets) → IsWithin limit p
    → (tells → read ≡ true → (size ≤ length old) × (new ≡ drop size old))
    → (tells → read ≡ false → (length old < size) × (new ≡ [])) → IsRead tells size limit (then_some read p) old new
read_dropped true p size limit old new is within whole cut = (
  padded size old,
  (padded_length size old, is (padded size old) (padded_length size old), within),
  λ t. let w =
      whole t refl in (w.0, take-append-le size old (replicate size 0) w.0, w.1),
)
read_dropped false p size limit old new is within whole cut = λ t. cut t refl

-- two payloads that are read one after the other
pub read_both : {tells : Type 0} (sizes limits : ℕ × ℕ) (p q : Payload) (old mid new : List ℕ)
    → IsRead tells sizes.0 limits.0 (Some p) old mid → IsRead tells sizes.1 limits.1 (Some q) mid new
    → AreRead tells sizes limits (Some (p, q)) old new
read_both sizes limits p q old mid new h k = (
  h.0,
  k.0,
  h.1,
  k.1,
  λ t.
      let a = h.2 t in
      let b = k.2 t in
      let left : length mid ≡ length old - sizes.0 = ap length a.2 ∙ length-drop sizes.0 old in (
        a.1,
        (
          omega (arith, a.0, b.0, left),
          ap (λ s. s ++ k.0) a.1 ∙ ap (λ s. take sizes.0 old ++ s) (b.1 ∙ ap (take sizes.1) a.2) ∙ sym (take-add sizes.0 sizes.1 old),
          b.2 ∙ ap (drop sizes.1) a.2 ∙ drop-drop sizes.1 sizes.0 old,
        ),
      ),
)
