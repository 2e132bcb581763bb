-- The procedures of a program from one of them on.
use Rattle.std.proofs.Common.{◌≡◌, ℕ, suc, ◌+◌, ◌≤◌, ◌-◌, true, false, List, [], ◌∷◌, Option, Some, None, sym, ap, subst, arith}
use Rattle.std.specs.Prelude.{slice_get, nat_eq}
use Rattle.std.proofs.lemmas.Bool.{eqb-true}
use Rattle.filing_image.specs.Program.{Program, firsts_of}
use Rattle.filing_verify.specs.Flow.{first_place}
use Rattle.filing_flow.specs.Structure.{Flow, size}
use Rattle.filing_flow.specs.Code.{places_in}
use Rattle.filing_flow.specs.Procedures.{places_from, ProceduresStand, AreProceduresOf, AreSound}

-- Of a given number of them, they are these from this number and place on.
pub record RestOf (p : Program) (count from place : ℕ) (procedures : List Flow) : Type 0 where
  pub stand : ProceduresStand (places_in p.texts p.numbers) p.code procedures place
  pub places : (n : ℕ) → first_place p (from + n) ≡ slice_get (places_from place procedures) n
  pub sound : AreSound p.slots count from procedures

module _ (p : Program) (count : ℕ) where
  pub all : (procedures : List Flow) → AreProceduresOf p procedures → AreSound p.slots count 0 procedures → RestOf p count 0 0 procedures
  all procedures are sound = record {
    stand = are.stand;
    places = λ n. let e : 0 + n ≡ n = omega arith in rw e (ap (λ (x : Option (List ℕ)). slice_get (firsts_of x) n) are.places);
    sound = sound;
  }

  module _ (from place : ℕ) (a : Flow) (later : List Flow) (rest : RestOf p count from place (a ∷ later)) where
    pub after_it : RestOf p count (suc from) (place + size a + 1) later
    after_it = record {
      stand = rest.stand.2;
      places = λ n. let e : suc from + n ≡ from + suc n = omega arith in rw e (rest.places (suc n));
      sound = rest.sound.1;
    }

    pub first_is : first_place p from ≡ Some place
    first_is = let e : from ≡ from + 0 = omega arith in subst (λ (n : ℕ). first_place p n ≡ Some place) (sym e) (rest.places 0)

    -- the first of them, or a later one
    pub first_or_later : (b : ℕ) → from ≤ b → (nat_eq b from ≡ true → b ≡ from) × (nat_eq b from ≡ false → suc from ≤ b)
    first_or_later b le = (λ e. eqb-true b from e, λ e. grind (arith, e, le))

  pub none_after : (from place b q : ℕ) → RestOf p count from place [] → from ≤ b → first_place p b ≡ Some q → ⊥
  none_after from place b q rest le e =
      let at : from + (b - from) ≡ b = omega arith in
      let none : first_place p b ≡ None = subst (λ (n : ℕ). first_place p n ≡ None) at (rest.places (b - from)) in
      absurd (cc (e, none))
