-- Where the procedures of a program begin, and which of them a place is in.
use Rattle.std.proofs.Common.{◌≡◌, ℕ, zero, suc, ◌+◌, ◌<◌, ◌≤◌, List, [], ◌∷◌, length, get_or, refl, sym, ap, subst, arith}
use Rattle.std.proofs.lemmas.Bool.{le-leb, lt-leb}
use Rattle.filing_verify.proofs.Procedures.{begun}
use Rattle.filing_verify.specs.Well.{Ascends, AreFirstPlaces}
use Rattle.filing_flow.specs.Structure.{Flow, size}
use Rattle.filing_flow.specs.Procedures.{places_from, whole_size}

pub places_long : (place : ℕ) (procedures : List Flow) → length (places_from place procedures) ≡ length procedures
places_long place [] = refl
places_long place (a ∷ later) = ap suc (places_long (place + size a + 1) later)

-- a procedure that begins at or before r, and those after it
pub begun_first : (r place : ℕ) (a : Flow) (later : List Flow) → place ≤ r
    → begun r (places_from place (a ∷ later)) ≡ 1 + begun r (places_from (place + size a + 1) later)
unfolding begun
begun_first r place a later le = rw (le-leb place r le) refl

pub none_begun : (r place : ℕ) (procedures : List Flow) → r < place → begun r (places_from place procedures) ≡ 0
unfolding begun
none_begun r place [] lt = refl
none_begun r place (a ∷ later) lt = let rest = none_begun r (place + size a + 1) later (omega arith) in rw (lt-leb place r lt) rest

ascends : (place : ℕ) (procedures : List Flow) → Ascends (places_from place procedures)
ascends place [] i lt = absurd (omega arith)
ascends place (a ∷ []) i lt = absurd (omega arith)
ascends place (a ∷ b ∷ later) zero lt =
    let e : 0 + 1 ≡ suc 0 = omega arith in
    subst (λ (k : ℕ). place < get_or (places_from place (a ∷ b ∷ later)) k 0) (sym e) (omega arith)
ascends place (a ∷ b ∷ later) (suc i) lt =
    let e : suc i + 1 ≡ suc (i + 1) = omega arith in
    let rest = ascends (place + size a + 1) (b ∷ later) i (omega (arith, lt)) in
    subst (λ (k : ℕ). get_or (places_from (place + size a + 1) (b ∷ later)) i 0 < get_or (places_from place (a ∷ b ∷ later)) k 0) (sym e) rest

begins_within : (place : ℕ) (procedures : List Flow) (k d : ℕ) → k < length (places_from place procedures)
    → get_or (places_from place procedures) k d < place + whole_size procedures
begins_within place [] k d lt = absurd (omega arith)
begins_within place (a ∷ later) zero d lt = omega arith
begins_within place (a ∷ later) (suc k) d lt = let rest = begins_within (place + size a + 1) later k d (omega (arith, lt)) in omega (arith, rest)

begins_at_zero : (procedures : List Flow) → 1 ≤ length procedures → get_or (places_from 0 procedures) 0 0 ≡ 0
begins_at_zero [] some = absurd (omega arith)
begins_at_zero (a ∷ later) some = refl

pub are_procedures : (places : ℕ) (procedures : List Flow) → places ≡ whole_size procedures → 1 ≤ length procedures
    → length procedures ≤ 256 → AreFirstPlaces places (places_from 0 procedures)
are_procedures places procedures long some few = record {
  some = omega (arith, some, places_long 0 procedures);
  most = omega (arith, few, places_long 0 procedures);
  start = begins_at_zero procedures some;
  ascending = ascends 0 procedures;
  within = λ k d lt. omega (arith, begins_within 0 procedures k d lt, long);
}
