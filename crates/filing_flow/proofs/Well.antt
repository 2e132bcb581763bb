-- A program of structured code is well formed.
use Rattle.std.proofs.Common.{◌≡◌, ℕ, zero, suc, ◌+◌, ◌<◌, ◌≤◌, ◌^◌, List, [], ◌∷◌, ◌++◌, length, Option, Some, refl}
use Rattle.std.proofs.Common.{sym, ap, ◌∙◌, subst, arith, inl, inr, length-append, append_assoc, replicate, get_or}
use Rattle.std.specs.Prelude.{slice_get, slice_index_or, All}
use Rattle.std.proofs.lemmas.Bool.{cases_lt}
use Rattle.std.proofs.lemmas.List.Elements.{All-from_get_or}
use Rattle.std.proofs.lemmas.Option.{slice_get_within, slice_get-get_or}
use Rattle.std.proofs.lemmas.List.{get_or_past}
use Rattle.std.proofs.Math.Seq.{get_or-append_seam}
use Rattle.filing_image.specs.declared.instruction.Operation.{Operation}
use Rattle.filing_image.specs.declared.instruction.Operation.TheVariants.{Stop, Call}
use Rattle.filing_image.specs.Program.{Program, first_places, firsts_of}
use Rattle.filing_verify.specs.declared.kind.Kind.TheVariants.{Truth}
use Rattle.filing_verify.specs.Flow.{Path, IsReached}
use Rattle.filing_verify.specs.Shapes as shapes
use Rattle.filing_verify.specs.Well.{InRange, HasProcedures, AreInRange, greatest_budget, Suffices, IsWell}
use Rattle.filing_verify.specs.Passes.{RunsOn}
use Rattle.filing_verify.proofs.Procedures.{one_piece, jump_is, stays}
use Rattle.filing_flow.specs.Structure.{Flow, block, size, without_procedures, IsSound}
use Rattle.filing_flow.specs.Types.{Shape, HasType}
use Rattle.filing_flow.specs.Whole.{IsCodeOf, TypedIsWell}
use Rattle.filing_flow.proofs.Typed.{shapes_of, shapes_long, ShapedAt, shaped_front, FineAt, CallsFine, flow_fine, starts}
use Rattle.filing_flow.proofs.Within.{flow_within}

-- a shape that nothing leaves
pub deep : Shape
deep = replicate 33 Truth

deep_long : length deep ≡ 33
unfolding deep
deep_long = refl

pub shaped_from : (pre ks : List Shape) → ShapedAt (λ q. slice_index_or (pre ++ ks) q deep) (length pre) ks
shaped_from pre [] = tt
shaped_from pre (k ∷ ks) =
    let e : (pre ++ k ∷ []) ++ ks ≡ pre ++ k ∷ ks = append_assoc pre (k ∷ []) ks in
    let n : length (pre ++ k ∷ []) ≡ length pre + 1 = length-append pre (k ∷ []) in (
      get_or-append_seam pre k ks deep,
      subst (λ (m : ℕ). ShapedAt (λ q. slice_index_or (pre ++ k ∷ ks) q deep) m ks) n (subst (λ (l : List Shape).
          ShapedAt (λ q. slice_index_or l q deep) (length (pre ++ k ∷ [])) ks) e (shaped_from (pre ++ k ∷ []) ks)),
    )

module _ (p : Program) (a : Flow) (is : IsCodeOf p a) (d : HasType (block a) [] [] [])
    (ok : IsSound (without_procedures p.slots) a) (slots : p.slots ≤ 64) (enough : size a + 1 ≤ p.budget)
    (small : p.budget < 2 ^ 16) where
  table : List Shape
  table = shapes_of (block a) [] [] [] d ++ [] ∷ []

  table_long : length table ≡ size a + 1
  unfolding table
  table_long = length-append (shapes_of (block a) [] [] [] d) ([] ∷ []) ∙ ap (λ n. n + 1) (shapes_long (block a) [] [] [] d)

  σ : ℕ → Shape
  σ q = slice_index_or table q deep

  shaped : ShapedAt σ 0 (shapes_of (block a) [] [] [] d) × (σ (size a) ≡ [])
  unfolding σ table
  shaped =
      let sa = shapes_of (block a) [] [] [] d in
      let n : length sa ≡ size a = shapes_long (block a) [] [] [] d in
      let end : slice_index_or (sa ++ [] ∷ []) (length sa) deep ≡ [] = get_or-append_seam sa [] [] deep in (
        shaped_front (λ q. slice_index_or (sa ++ [] ∷ []) q deep) 0 sa ([] ∷ []) (shaped_from [] (sa ++ [] ∷ [])),
        subst (λ (k : ℕ). slice_index_or (sa ++ [] ∷ []) k deep ≡ []) n end,
      )

  code_long : length p.code ≡ size a + 1
  code_long = is.long

  no_first : length (first_places p) ≡ 0
  no_first = ap (λ (x : Option (List ℕ)). length (firsts_of x)) is.one_piece

  no_call : CallsFine p σ (without_procedures p.slots) (size a)
  no_call b q less first = absurd (omega (arith, slice_get_within (first_places p) b q first, no_first))

  end_fine : FineAt p σ (size a) Stop
  end_fine = record {
    result = [];
    finds = ap (shapes.after Stop) shaped.1;
    shallow = rw (shaped.1) (omega arith);
    shallow_after = omega arith;
    goes = λ q f. elim f [ inl (g, at) ↦ absurd (cc g) | inr to ↦ absurd (cc to) ];
  }

  fine : (q : ℕ) (o : Operation) → slice_get p.code q ≡ Some o → FineAt p σ q o
  fine q o at =
      let inside : q < size a + 1 = omega (arith, slice_get_within p.code q o at, code_long) in
      let z : 0 + size a ≡ size a = omega arith in
      let front = flow_fine p σ (without_procedures p.slots) (size a) no_call (block a) [] 0 [] [] [] d ok (omega arith)
      is.stands.0 shaped.0 (rw z shaped.1) (λ n k e. absurd (cc e)) in
      elim (cases_lt q (size a)) [
        | inl lt ↦ front q o (omega arith) (omega (arith, lt)) at
        | inr le ↦
            let (stop, there, w) = is.stands.1 in
            let here : q ≡ 0 + size a = omega (arith, inside, le) in
            let same : Stop ≡ o = cc (at, there, w, here) in
            subst (λ (n : ℕ). FineAt p σ n o) (sym (here ∙ z)) (subst (λ (x : Operation). FineAt p σ (size a) x) same end_fine)
      ]

  path_later : (n q : ℕ) → Path p n q → n ≤ q
  path_later zero q h = omega arith
  path_later (suc n) q h = let (from, path, (o, at, follows)) = h in omega (arith, path_later n from path, ((fine from o at).goes q follows).0)

  past : σ (length p.code) ≡ deep
  unfolding σ
  past = get_or_past table (length p.code) deep (omega (arith, table_long, code_long))

  starts_empty : σ 0 ≡ []
  starts_empty = starts p σ (block a) [] [] [] d 0 shaped.0 (let z : 0 + size a ≡ size a = omega arith in rw z shaped.1)

  each_in_range : (q : ℕ) (o : Operation) → slice_get p.code q ≡ Some o → InRange p o
  each_in_range q o at =
      let inside : q < size a + 1 = omega (arith, slice_get_within p.code q o at, code_long) in
      let front = flow_within p (without_procedures p.slots) refl (omega arith) (size a) (omega (arith, code_long))
      (block a) [] 0 [] [] [] d ok is.stands.0 (omega arith) (λ n k e. absurd (cc e)) in
      elim (cases_lt q (size a)) [
        | inl lt ↦ (front q o (omega arith) (omega (arith, lt)) at).in_range
        | inr le ↦
            let (stop, there, w) = is.stands.1 in
            let here : q ≡ 0 + size a = omega (arith, inside, le) in
            let same : Stop ≡ o = cc (at, there, w, here) in
            subst (λ (x : Operation). InRange p x) same tt
      ]

  in_range : All (InRange p) p.code
  in_range = All-from_get_or (InRange p) p.code Stop (λ q lt. each_in_range q (get_or p.code q Stop) (slice_get-get_or p.code q Stop lt))

  ranges : AreInRange p
  ranges = record {
    slots = slots;
    each = in_range;
    procedures = subst (HasProcedures p) (sym is.one_piece) tt;
    jumps = λ i q o at to. one_piece p is.one_piece q ∙ sym (one_piece p is.one_piece i);
  }

  greatest : greatest_budget p.procedures ≡ 65535
  greatest = ap greatest_budget is.one_piece

  never_on : (q : ℕ) → q < length p.code → IsReached p q → RunsOn p q → ⊥
  never_on q within reached on = elim (cases_lt (q + 1) (length p.code)) [
    | inl lt ↦ on.out (lt, one_piece p is.one_piece (q + 1) ∙ sym (one_piece p is.one_piece q))
    | inr end ↦
        let f = fine q on.operation on.here in
        let last : length p.code ≡ q + 1 = omega arith in
        let same : f.result ≡ deep = sym (f.goes (length p.code) (inl (on.goes, last))).1 ∙ past in
        omega (arith, f.shallow_after, ap length same, deep_long)
  ]

  pub is_well : IsWell p
  is_well = record {
    in_range = ranges;
    forward = record {
      jumps = λ q r o reached at to. ((fine q o at).goes r (inr (jump_is p o r to))).0;
      calls = λ q b reached at. let lt : b < length (first_places p) = each_in_range q (Call b) at in absurd (omega (arith, lt, no_first));
    };
    shaped = (
      σ,
      record {
        start = starts_empty;
        each = λ q o reached at. let f = fine q o at in record {
          result = f.result;
          finds = f.finds;
          shallow =
              f.shallow;
          shallow_after = f.shallow_after;
          passed_on = λ r follows lt. (f.goes r follows).1;
        };
      },
    );
    inside = record {
      some = omega (arith, code_long);
      inside = stays p ranges never_on;
    };
    within = record {
      least = omega arith;
      most = rw greatest (omega arith);
      enough = subst (Suffices p) (sym is.one_piece) (λ n q path lt. omega (arith, path_later n q path, code_long));
    };
  }

pub typed_is_well : TypedIsWell
typed_is_well p a is d ok slots enough small = is_well p a is d ok slots enough small
