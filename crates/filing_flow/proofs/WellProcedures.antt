-- A program of procedures is well formed.
use Rattle.std.proofs.Common.{◌≡◌, ℕ, suc, ◌+◌, ◌<◌, ◌≤◌, Bool, true, false, leb, List, [], ◌∷◌, ◌++◌, length, get_or}
use Rattle.std.proofs.Common.{Option, Some, refl, sym, ap, ◌∙◌, subst, arith, inl, inr}
use Rattle.std.specs.Prelude.{slice_get, slice_index_or, nat_eq, All}
use Rattle.std.specs.List.{count_by}
use Rattle.std.proofs.lemmas.Bool.{cases_lt}
use Rattle.std.proofs.lemmas.List.Elements.{All-from_get_or}
use Rattle.std.proofs.lemmas.Option.{slice_get_within, slice_get-get_or}
use Rattle.filing_image.specs.declared.instruction.Operation.{Operation}
use Rattle.filing_image.specs.declared.instruction.Operation.TheVariants.{Stop, Call, Return}
use Rattle.filing_image.specs.Program.{Program, first_places, firsts_of}
use Rattle.filing_verify.specs.Flow.{first_place, goes_on, IsReached, procedure_of}
use Rattle.filing_verify.specs.Shapes as shapes
use Rattle.filing_verify.specs.Well.{InRange, HasProcedures, AreInRange, greatest_budget, Suffices, IsWell}
use Rattle.filing_verify.specs.Passes.{RunsOn}
use Rattle.filing_verify.proofs.Procedures.{jump_is, stays, begun, begun_is}
use Rattle.filing_flow.specs.Structure.{Flow, block, size, Bounds}
use Rattle.filing_flow.specs.Types.{Shape}
use Rattle.filing_flow.specs.Procedures.{places_from, whole_size, AreProceduresOf, AreSound, AreTyped, steps_by, TypedProceduresAreWell}
use Rattle.filing_flow.proofs.Rest.{RestOf, all, after_it, first_is, first_or_later, none_after}
use Rattle.filing_flow.proofs.Typed.{shapes_of, shapes_long, ShapedAt, shaped_front, shaped_back, FineAt, flow_fine, starts}
use Rattle.filing_flow.proofs.Within.{Within, flow_within}
use Rattle.filing_flow.proofs.Well.{deep, shaped_from}
use Rattle.filing_flow.proofs.Costs.{AreExact, costs, costs_are, procedures_cost}
use Rattle.filing_flow.proofs.ProcedurePlaces.{places_long, begun_first, none_begun, are_procedures}

-- the shapes before each operation
abbrev all_shapes : (procedures : List Flow) → AreTyped procedures → List Shape
all_shapes [] typed = []
all_shapes (a ∷ later) typed = shapes_of (block a) [] [] [] typed.0 ++ [] ∷ all_shapes later typed.1

-- SHAPES

module _ (p : Program) (σ : ℕ → Shape) (count : ℕ) where
  -- the shapes of one procedure, and of those after it
  record Shaped (place : ℕ) (a : Flow) (later : List Flow) (typed : AreTyped (a ∷ later)) : Type 0 where
    pub own : ShapedAt σ place (shapes_of (block a) [] [] [] typed.0)
    pub end : σ (place + size a) ≡ []
    pub rest : ShapedAt σ (place + size a + 1) (all_shapes later typed.1)

  shaped : (place : ℕ) (a : Flow) (later : List Flow) (typed : AreTyped (a ∷ later))
      → ShapedAt σ place (all_shapes (a ∷ later) typed) → Shaped place a later typed
  shaped place a later typed h =
      let sa = shapes_of (block a) [] [] [] typed.0 in
      let e : place + length sa ≡ place + size a = omega (arith, shapes_long (block a) [] [] [] typed.0) in
      let back : ShapedAt σ (place + size a) ([] ∷ all_shapes later typed.1) =
      subst (λ (n : ℕ). ShapedAt σ n ([] ∷ all_shapes later typed.1)) e
      (shaped_back σ place sa ([] ∷ all_shapes later typed.1) h) in
      record { own = shaped_front σ place sa ([] ∷ all_shapes later typed.1) h; end = back.0; rest = back.1 }

  -- calls enter procedures from here on with the empty shape
  abbrev Entered : (from place : ℕ) → Type 0
  Entered from place = (b q : ℕ) → from ≤ b → first_place p b ≡ Some q → (place ≤ q) × (σ q ≡ [])

  one_entered : (a : Flow) (later : List Flow) (from place : ℕ) (typed : AreTyped (a ∷ later))
      → RestOf p count from place (a ∷ later) → Shaped place a later typed → Entered (suc from) (place + size a + 1)
      → Entered from place
  one_entered a later from place typed rest h after b q le first = go (nat_eq b from) refl
    where
      go : (t : Bool) → nat_eq b from ≡ t → (place ≤ q) × (σ q ≡ [])
      go true e =
          let here = first_is p count from place a later rest in
          let same : place ≡ q = cc (here, first, (first_or_later p count from place a later rest b le).0 e) in
          (omega (arith, same), subst (λ (n : ℕ). σ n ≡ []) same (starts p σ (block a) [] [] [] typed.0 place h.own h.end))
      go false e = let x = after b q ((first_or_later p count from place a later rest b le).1 e) first in (omega (arith, x.0), x.1)

  all_entered : (procedures : List Flow) (from place : ℕ) (typed : AreTyped procedures)
      → RestOf p count from place procedures → ShapedAt σ place (all_shapes procedures typed) → Entered from place
  all_entered [] from place typed rest h = λ b q le first. absurd (none_after p count from place b q rest le first)
  all_entered (a ∷ later) from place typed rest h =
      let s = shaped place a later typed h in
      one_entered a later from place typed rest s (all_entered later (suc from) (place + size a + 1) typed.1
      (after_it p count from place a later rest) s.rest)

  -- PLACES

  -- a place of a procedure: its operation is fine, its jump and the next place stay in the procedure, and its calls go to
  -- later ones
  pub record PlaceIn (q : ℕ) : Type 0 where
    pub own : ℕ
    pub first : ℕ
    pub last : ℕ
    pub low : first ≤ q
    pub inside : last < length p.code
    pub same : (r : ℕ) → first ≤ r → r ≤ last → procedure_of p r ≡ own
    pub fine : (o : Operation) → slice_get p.code q ≡ Some o → FineAt p σ q o
    pub within : (o : Operation) → slice_get p.code q ≡ Some o → Within p own last o
    pub goes : (o : Operation) → slice_get p.code q ≡ Some o → goes_on o ≡ true → q < last

  return_fine : (q : ℕ) → σ q ≡ [] → FineAt p σ q Return
  return_fine q here = record {
    result = [];
    finds = ap (shapes.after Return) here;
    shallow = rw here (omega arith);
    shallow_after = omega arith;
    goes = λ r f. elim f [ inl (g, at) ↦ absurd (cc g) | inr to ↦ absurd (cc to) ];
  }

  -- the procedures from here on are counted
  abbrev Counted : (from place : ℕ) → List Flow → Type 0
  Counted from place procedures = (r : ℕ) → place ≤ r → count_by (λ f. leb f r) (first_places p) ≡ from + begun r (places_from place procedures)

  module _ (known : count ≤ length (first_places p)) (there : 0 < count) (a : Flow) (later : List Flow) (from place : ℕ)
      (typed : AreTyped (a ∷ later)) (rest : RestOf p count from place (a ∷ later)) (h : Shaped place a later typed)
      (after : Entered (suc from) (place + size a + 1)) (counted : Counted from place (a ∷ later))
      (inside : place + size a < length p.code) where
    bounds : Bounds
    bounds = record { slots = p.slots; own = from; procedures = count }

    in_it : (r : ℕ) → place ≤ r → r ≤ place + size a → procedure_of p r ≡ from
    in_it r low high =
        let c = counted r low in
        let b = begun_first r place a later low in
        let n = none_begun r (place + size a + 1) later (omega (arith, high)) in
        omega (arith, c, b, n)

    inner : (q : ℕ) → place ≤ q → q < place + size a → PlaceIn q
    unfolding bounds
    inner q low high = record {
      own = from;
      first = place;
      last = place + size a;
      low = low;
      inside = inside;
      same = in_it;
      fine = λ o at.
          flow_fine p σ bounds (place + size a + 1) after (block a) [] place [] [] [] typed.0 rest.sound.0 (omega arith)
          rest.stand.0 h.own h.end (λ n k e. absurd (cc e)) q o low high at;
      within = λ o at.
          flow_within p bounds refl known (place + size a) inside (block a) [] place [] [] [] typed.0 rest.sound.0
          rest.stand.0 (omega arith) (λ n k e. absurd (cc e)) q o low high at;
      goes = λ o at g. high;
    }

    last_one : PlaceIn (place + size a)
    last_one = record {
      own = from;
      first = place;
      last = place + size a;
      low = omega arith;
      inside = inside;
      same = in_it;
      fine = λ o at. subst (λ (x : Operation). FineAt p σ (place + size a) x) (is o at) (return_fine (place + size a) h.end);
      within = λ o at.
          subst (λ (x : Operation). Within p from (place + size a) x) (is o at) (record {
            in_range =
                omega (arith, there, known);
            jumps = λ r to. absurd cc;
            calls = λ b e. absurd cc;
          });
      goes = λ o at g. absurd (cc (is o at, g));
    }
      where
        is : (o : Operation) → slice_get p.code (place + size a) ≡ Some o → Return ≡ o
        is o at = cc (rest.stand.1, at)

    in_one : (q : ℕ) → place ≤ q → q < place + size a + 1 → PlaceIn q
    in_one q low high = elim (cases_lt q (place + size a)) [
      | inl lt ↦ inner q low lt
      | inr le ↦ let e : place + size a ≡ q = omega (arith, high, le) in subst PlaceIn e last_one
    ]

  place_in : count ≤ length (first_places p) → 0 < count
      → (procedures : List Flow) (from place : ℕ) (typed : AreTyped procedures) → RestOf p count from place procedures
      → ShapedAt σ place (all_shapes procedures typed) → Counted from place procedures
      → place + whole_size procedures ≤ length p.code
      → (q : ℕ) → place ≤ q → q < place + whole_size procedures → PlaceIn q
  place_in known there [] from place typed rest h counted inside = λ q low high. absurd (omega (arith, low, high))
  place_in known there (a ∷ later) from place typed rest h counted inside =
      let s = shaped place a later typed h in
      let next = after_it p count from place a later rest in
      let entered = all_entered later (suc from) (place + size a + 1) typed.1 next s.rest in
      let counted' : Counted (suc from) (place + size a + 1) later = λ r le. let b =
      begun_first r place a later (omega (arith, le)) in let c = counted r (omega (arith, le)) in
      omega (arith, b, c) in
      let tail = place_in known there later (suc from) (place + size a + 1) typed.1 next s.rest counted' (omega (arith, inside)) in
      λ q low high. elim (cases_lt q (place + size a + 1)) [
        | inl lt ↦ in_one known there a later from place typed rest s entered counted (omega (arith, inside)) q low lt
        | inr le ↦ tail q le (omega (arith, high))
      ]

-- THE PROGRAM

module _ (p : Program) (procedures : List Flow) (are : AreProceduresOf p procedures) (typed : AreTyped procedures)
    (sound : AreSound p.slots (length procedures) 0 procedures) (slots : p.slots ≤ 64) (some : 1 ≤ length procedures)
    (few : length procedures ≤ 256) (enough : steps_by 0 procedures 0 ≤ p.budget) (small : p.budget ≤ 1000000) where
  count : ℕ
  count = length procedures

  σ : ℕ → Shape
  σ q = slice_index_or (all_shapes procedures typed) q deep

  all_shaped : ShapedAt σ 0 (all_shapes procedures typed)
  unfolding σ
  all_shaped = shaped_from [] (all_shapes procedures typed)

  first_places_are : first_places p ≡ places_from 0 procedures
  first_places_are = ap firsts_of are.places

  rest : RestOf p count 0 0 procedures
  unfolding count
  rest = all p count procedures are sound

  known : count ≤ length (first_places p)
  unfolding count
  known = rw first_places_are (omega (arith, places_long 0 procedures))

  some_count : 0 < count
  unfolding count
  some_count = some

  counted : Counted p σ count 0 0 procedures
  counted r le = rw first_places_are (omega (arith, begun_is r (places_from 0 procedures)))

  place : (q : ℕ) (o : Operation) → slice_get p.code q ≡ Some o → PlaceIn p σ count q
  place q o at =
      place_in p σ count known some_count procedures 0 0 typed rest all_shaped counted (omega (arith, are.long)) q
      (omega arith) (omega (arith, are.long, slice_get_within p.code q o at))

  fine : (q : ℕ) (o : Operation) → slice_get p.code q ≡ Some o → FineAt p σ q o
  fine q o at = (place q o at).fine o at

  in_range : All (InRange p) p.code
  in_range = All-from_get_or (InRange p) p.code Stop (λ q lt. let at = slice_get-get_or p.code q Stop lt in
      ((place q (get_or p.code q Stop) at).within (get_or p.code q Stop) at).in_range)

  ranges : AreInRange p
  ranges = record {
    slots = slots;
    each = in_range;
    procedures = subst (HasProcedures p) (sym are.places) (are_procedures (length p.code) procedures are.long some few);
    jumps = λ i q o at to.
        let x = place i o at in
        let later = ((fine i o at).goes q (inr (jump_is p o q to))).0 in
        x.same q (omega (arith, x.low, later)) ((x.within o at).jumps q to) ∙ sym (x.same i x.low (omega (arith, later, (x.within o at).jumps q to)));
  }

  never_on : (q : ℕ) → q < length p.code → IsReached p q → RunsOn p q → ⊥
  never_on q lt reached on =
      let x = place q on.operation on.here in
      let next = x.goes on.operation on.here on.goes in
      on.out (omega (arith, next, x.inside), x.same (q + 1) (omega (arith, x.low)) (omega (arith, next)) ∙ sym (x.same q x.low (omega (arith, next))))

  exact : AreExact p (costs p)
  exact = costs_are p (λ q r o at follows. ((fine q o at).goes r follows).0)

  begins : first_place p 0 ≡ Some 0
  begins = begins_by procedures are.places some
    where
      begins_by : (ps : List Flow) → p.procedures ≡ Some (places_from 0 ps) → 1 ≤ length ps → first_place p 0 ≡ Some 0
      begins_by [] e some = absurd (omega arith)
      begins_by (a ∷ later) e some = ap (λ (x : Option (List ℕ)). slice_get (firsts_of x) 0) e

  first_cost : costs p 0 ≤ steps_by 0 procedures 0
  unfolding count
  first_cost = procedures_cost p (costs p) exact count procedures 0 0 typed rest 0 0 (omega arith) begins

  some_steps : 1 ≤ steps_by 0 procedures 0
  some_steps = steps_some procedures some
    where
      steps_some : (ps : List Flow) → 1 ≤ length ps → 1 ≤ steps_by 0 ps 0
      steps_some [] some = absurd (omega arith)
      steps_some (a ∷ later) some = omega arith

  some_places : 0 < length p.code
  some_places = places_by procedures are.long some
    where
      places_by : (ps : List Flow) → length p.code ≡ whole_size ps → 1 ≤ length ps → 0 < length p.code
      places_by [] e some = absurd (omega arith)
      places_by (a ∷ later) e some = omega (arith, e)

  greatest : greatest_budget p.procedures ≡ 1000000
  greatest = ap greatest_budget are.places

  pub is_well : IsWell p
  is_well = record {
    in_range = ranges;
    forward = record {
      jumps = λ q r o reached at to. ((fine q o at).goes r (inr (jump_is p o r to))).0;
      calls = λ q b reached at.
          let x = place q (Call b) at in
          let next = x.goes (Call b) at refl in
          let less = (x.within (Call b) at).calls b refl in
          omega (arith, less, x.same q x.low (omega (arith, next)));
    };
    shaped = (
      σ,
      record {
        start = (all_entered p σ count procedures 0 0 typed rest all_shaped 0 0 (omega arith) begins).1;
        each = λ q o reached at. let f = fine q o at in record {
          result = f.result;
          finds = f.finds;
          shallow =
              f.shallow;
          shallow_after = f.shallow_after;
          passed_on = λ r follows lt. (f.goes r follows).1;
        };
      },
    );
    inside = record { some = some_places; inside = stays p ranges never_on };
    within = record {
      least = omega (arith, some_steps, enough);
      most = rw greatest small;
      enough = subst (Suffices p) (sym are.places) (costs p, (λ q o reached at. exact q o at), omega (arith, first_cost, enough));
    };
  }

pub typed_procedures_are_well : TypedProceduresAreWell
typed_procedures_are_well p procedures are typed sound slots some few enough small = is_well p procedures are typed sound slots some few enough small
