-- Procedures begin at places that ascend: which of them a place is in.
use Rattle.std.proofs.Common.{◌≡◌, ℕ, zero, suc, ◌+◌, ◌-◌, ◌<◌, ◌≤◌, Bool, true, false, cond, eqb, leb, List, [], ◌∷◌, length, get_or, Option, Some}
use Rattle.std.proofs.Common.{None, refl, sym, ap, eq-eqb, ◌∙◌, subst, arith, inl, inr, ◌⊎◌}
use Rattle.std.specs.Prelude.{slice_get}
use Rattle.std.specs.List.{count_by}
use Rattle.std.specs.List.Sorted.{IsPartitionedBy, IsPartitionPoint}
use Rattle.std.proofs.lemmas.Grind.{get_or_default_zero}
use Rattle.std.proofs.lemmas.List.Sorted.{IsPartitionedBy-leb, IsNonDecreasingBy-from_all_adjacent}
use Rattle.std.proofs.lemmas.List.Recursion.{is_count_by}
use Rattle.std.proofs.lemmas.List.Sums.{count_by-le-length}
use Rattle.std.proofs.lemmas.Option.{slice_get_within, slice_get-get_or}
use Rattle.std.proofs.lemmas.Bool.{cases_lt, eqb-true, le-leb, lt-leb, leb-true, leb-false}
use Rattle.filing_image.specs.Program.{Program, first_places, firsts_of, version_of}
use Rattle.filing_image.specs.declared.version.Version.TheVariants.{One, Two}
use Rattle.filing_image.specs.declared.instruction.Operation.{Operation}
use Rattle.filing_image.specs.declared.instruction.Operation.TheVariants.{Jump, JumpIf, JumpUnless, Call}
use Rattle.filing_verify.specs.Flow.{jump_target, first_place, target, IsReached, Continues, procedure_of}
use Rattle.filing_verify.specs.Well.{InRange, Ascends, AreFirstPlaces, HasProcedures, AreInRange, GoesForward, StaysInside}
use Rattle.filing_verify.specs.Passes.{GoesOnward, LeadsInside, RunsOn}

pub no_procedures : (x : Option (List ℕ)) → version_of x ≡ One → x ≡ None
no_procedures None e = refl
no_procedures (Some firsts) e = absurd cc

pub some_procedures : (x : Option (List ℕ)) → version_of x ≡ Two → x ≡ Some (firsts_of x)
some_procedures None e = absurd cc
some_procedures (Some firsts) e = refl

-- ---- how many numbers are at most p

unfoldable pub begun : ℕ → List ℕ → ℕ
begun p [] = 0
begun p (f ∷ fs) = cond (leb f p) (1 + begun p fs) (begun p fs)

pub begun_is : (p : ℕ) (fs : List ℕ) → begun p fs ≡ count_by (λ f. leb f p) fs
unfolding begun
begun_is p fs = is_count_by (begun p) (λ f. leb f p) refl (λ x xs. refl) fs

tail_ascends : (x : ℕ) (xs : List ℕ) → Ascends (x ∷ xs) → Ascends xs
tail_ascends x xs asc i lt =
    let e : suc i + 1 ≡ suc (i + 1) = omega arith in
    let long : suc i + 1 < suc (length xs) = omega arith in
    subst (λ (k : ℕ). get_or xs i 0 < get_or (x ∷ xs) k 0) e (asc (suc i) long)

head_less : (x y : ℕ) (ys : List ℕ) → Ascends (x ∷ y ∷ ys) → x < y
head_less x y ys asc =
    let e : 0 + 1 ≡ suc 0 = omega arith in
    let long : 0 + 1 < suc (suc (length ys)) = omega arith in
    subst (λ (k : ℕ). x < get_or (x ∷ y ∷ ys) k 0) e (asc 0 long)

counted : (p f n : ℕ) → f ≤ p → cond (leb f p) (1 + n) n ≡ 1 + n
counted p f n le = rw (le-leb f p le) refl

passed : (p f n : ℕ) → p < f → cond (leb f p) (1 + n) n ≡ n
passed p f n lt = rw (lt-leb f p lt) refl

none_begun : (p x : ℕ) (xs : List ℕ) → Ascends (x ∷ xs) → p < x → begun p (x ∷ xs) ≡ 0
unfolding begun
none_begun p x [] asc lt = passed p x 0 lt
none_begun p x (y ∷ ys) asc lt =
    let less = head_less x y ys asc in
    let rest : begun p (y ∷ ys) ≡ 0 = none_begun p y ys (tail_ascends x (y ∷ ys) asc) (omega arith) in
    passed p x (begun p (y ∷ ys)) lt ∙ rest

counts_it : (p : ℕ) (fs : List ℕ) (b : ℕ) → Ascends fs → b < length fs → get_or fs b 0 ≤ p → b < begun p fs
unfolding begun
counts_it p [] b asc lt le = absurd (omega arith)
counts_it p (x ∷ xs) zero asc lt le = let e : begun p (x ∷ xs) ≡ 1 + begun p xs = counted p x (begun p xs) le in omega arith
counts_it p (x ∷ xs) (suc b) asc lt le =
    let rest = counts_it p xs b (tail_ascends x xs asc) (omega arith) le in
    elim (cases_lt p x) [
      | inl less ↦
          let none : begun p (x ∷ xs) ≡ 0 = none_begun p x xs asc less in
          let same : begun p (x ∷ xs) ≡ begun p xs = passed p x (begun p xs) less in
          absurd (omega arith)
      | inr more ↦ let e : begun p (x ∷ xs) ≡ 1 + begun p xs = counted p x (begun p xs) more in omega arith
    ]

counts_before : (p : ℕ) (fs : List ℕ) (b : ℕ) → Ascends fs → b < length fs → p < get_or fs b 0 → begun p fs ≤ b
unfolding begun
counts_before p [] b asc lt less = absurd (omega arith)
counts_before p (x ∷ xs) zero asc lt less = let e : begun p (x ∷ xs) ≡ 0 = none_begun p x xs asc less in omega arith
counts_before p (x ∷ xs) (suc b) asc lt less =
    let rest = counts_before p xs b (tail_ascends x xs asc) (omega arith) less in
    elim (cases_lt p x) [
      | inl before ↦ let e : begun p (x ∷ xs) ≡ begun p xs = passed p x (begun p xs) before in omega arith
      | inr more ↦ let e : begun p (x ∷ xs) ≡ 1 + begun p xs = counted p x (begun p xs) more in omega arith
    ]

-- what a search by halves finds: the numbers below index i are at most p, and those from i on are above it
counted_to : (p : ℕ) (fs : List ℕ) (i : ℕ) → i ≤ length fs → ((k : ℕ) → k < i → get_or fs k 0 ≤ p)
    → ((k : ℕ) → i ≤ k → k < length fs → p < get_or fs k 0) → begun p fs ≡ i
unfolding begun
counted_to p [] i le low high = omega arith
counted_to p (x ∷ xs) zero le low high =
    let rest : begun p xs ≡ 0 = counted_to p xs zero (omega arith) (λ k lt. absurd (omega arith)) (λ k from lt.
    high (suc k) (omega arith) (omega arith)) in
    passed p x (begun p xs) (high zero (omega arith) (omega arith)) ∙ rest
counted_to p (x ∷ xs) (suc i) le low high =
    let rest : begun p xs ≡ i = counted_to p xs i (omega arith) (λ k lt. low (suc k) (omega arith)) (λ k from lt.
    high (suc k) (omega arith) (omega arith)) in
    let more : begun p (x ∷ xs) ≡ 1 + begun p xs = counted p x (begun p xs) (low zero (omega arith)) in
    omega arith

-- ---- the procedures of a program

procedures_are : (p : Program) (x : Option (List ℕ)) → HasProcedures p x → 0 < length (firsts_of x) → AreFirstPlaces (length p.code) (firsts_of x)
procedures_are p None h some = absurd (omega arith)
procedures_are p (Some firsts) h some = h

ascending : (p : Program) (x : Option (List ℕ)) → HasProcedures p x → Ascends (firsts_of x)
ascending p None h = λ i lt. absurd (omega arith)
ascending p (Some firsts) h = h.ascending

pub are_partitioned : (p : Program) (t : ℕ) → HasProcedures p p.procedures → IsPartitionedBy (λ f. leb f t) (first_places p)
are_partitioned p t h =
    let fs = first_places p in
    let asc = ascending p p.procedures h in
    IsPartitionedBy-leb (λ f. f) fs t (IsNonDecreasingBy-from_all_adjacent (λ f. f) fs (λ k d lt. let less = asc k lt in
    omega (arith, get_or_default_zero fs k d (omega arith), get_or_default_zero fs (k + 1) d lt, less)))

-- where the search ends, as the number of procedures that begin at or before a place
pub begun_at : (p : Program) (t i : ℕ) → i ≤ length (first_places p)
    → IsPartitionPoint (λ f. leb f t ≡ true) (λ f. leb f t ≡ false) (first_places p) i
    → i ≡ count_by (λ f. leb f t) (first_places p)
begun_at p t i le point =
    sym (counted_to t (first_places p) i le (λ k lt. leb-true _ _ (point.0 k 0 (omega arith) lt)) (λ k from lt.
    leb-false _ _ (point.1 k 0 from lt))) ∙ begun_is t (first_places p)

-- the code of version 1 is one piece
pub one_piece : (program : Program) → program.procedures ≡ None → (p : ℕ) → procedure_of program p ≡ 0
one_piece program none p = ap (λ (x : Option (List ℕ)). count_by (λ f. leb f p) (firsts_of x) - 1) none

pub jump_is : (program : Program) (o : Operation) (q : ℕ) → jump_target o ≡ Some q → target program o ≡ Some q
jump_is program (Call b) q e = absurd cc
jump_is program o q e = e

module _ (program : Program) (in_range : AreInRange program) where
  -- of a program that has procedures
  pub are : (b : ℕ) → b < length (first_places program) → AreFirstPlaces (length program.code) (first_places program)
  are b lt = procedures_are program program.procedures in_range.procedures (omega arith)

  module _ (b f : ℕ) (first : first_place program b ≡ Some f) where
    there : b < length (first_places program)
    there = slice_get_within (first_places program) b f first

    is_first : f ≡ get_or (first_places program) b 0
    is_first = let e = slice_get-get_or (first_places program) b 0 there in
        let s : Some f ≡ Some (get_or (first_places program) b 0) = sym first ∙ e in cc

    some_begun : (p : ℕ) → 0 < begun p (first_places program)
    some_begun p =
        let a = are b there in
        counts_it p (first_places program) 0 a.ascending a.some (omega (arith, a.start))

    pub entered_within : f < length program.code
    entered_within = let a = are b there in rw is_first (a.within b 0 there)

    -- a call enters a later place where it enters a procedure of a greater number, and nowhere else
    pub later_place : (p : ℕ) → procedure_of program p < b → p < f
    later_place p less =
        let a = are b there in
        let e = begun_is p (first_places program) in
        elim (cases_lt p f) [
          | inl lt ↦ lt
          | inr le ↦ let c = counts_it p (first_places program) b a.ascending there (omega (arith, is_first)) in absurd (omega arith)
        ]

    pub later_number : (p : ℕ) → p < f → procedure_of program p < b
    later_number p less =
        let a = are b there in
        let e = begun_is p (first_places program) in
        let s = some_begun p in
        let c = counts_before p (first_places program) b a.ascending there (omega (arith, is_first)) in
        omega arith

    -- the first place of a procedure is in it, or in a later one
    pub enters : b ≤ procedure_of program f
    enters =
        let a = are b there in
        let e = begun_is f (first_places program) in
        let c = counts_it f (first_places program) b a.ascending there (omega (arith, is_first)) in
        omega arith

  few : (x : Option (List ℕ)) → HasProcedures program x → length (firsts_of x) ≤ 256
  few None h = omega arith
  few (Some firsts) h = h.most

  pub number_small : (p : ℕ) → procedure_of program p < 256
  number_small p =
      let most = few program.procedures in_range.procedures in
      omega (arith, most, count_by-le-length (λ f. leb f p) (first_places program))

  -- a jump names its target, and a call enters a procedure
  pub by_kind : (o : Operation) (q : ℕ) → target program o ≡ Some q
      → (jump_target o ≡ Some q) ⊎ ((b : ℕ) × (o ≡ Call b) × (first_place program b ≡ Some q))
  by_kind (Call b) q e = inr (b, refl, e)
  by_kind o q e = inl e

  pub onward : GoesForward program → GoesOnward program
  onward forward p q o reached at to = elim (by_kind o q to) [
    | inl jumps ↦ forward.jumps p q o reached at jumps
    | inr (b, is, first) ↦ later_place b q first p (forward.calls p b reached (at ∙ ap Some is))
  ]

  called : (b : ℕ) → b < length (first_places program) → first_place program b ≡ Some (get_or (first_places program) b 0)
  called b lt = slice_get-get_or (first_places program) b 0 lt

  pub in_range_at : (p : ℕ) (o : Operation) → slice_get program.code p ≡ Some o → InRange program o
  in_range_at p o at =
      let within : p < length program.code = slice_get_within program.code p o at in
      let e : slice_get program.code p ≡ Some (get_or program.code p o) = slice_get-get_or program.code p o within in
      let same : get_or program.code p o ≡ o = cc (e, at) in
      subst (InRange program) same (in_range.each p o within)

  pub forward : GoesOnward program → GoesForward program
  forward goes = record {
    jumps = λ p q o reached at to. goes p q o reached at (jump_is program o q to);
    calls = λ p b reached at.
        let first = called b (in_range_at p (Call b) at) in
        later_number b (get_or (first_places program) b 0) first p (goes p (get_or (first_places program) b 0) (Call b) reached at first);
  }

  jump_within : (o : Operation) (q : ℕ) → InRange program o → jump_target o ≡ Some q → q < length program.code
  jump_within (Jump b) q h e = let same : b ≡ q = cc in rw (← same) h
  jump_within (JumpIf b) q h e = let same : b ≡ q = cc in rw (← same) h
  jump_within (JumpUnless b) q h e = let same : b ≡ q = cc in rw (← same) h
  jump_within o q h e = absurd cc

  -- where no place runs on into another procedure, or past the end
  pub stays : ((p : ℕ) → p < length program.code → IsReached program p → RunsOn program p → ⊥) → (p q : ℕ)
      → IsReached program p → Continues program p q → (q < length program.code)
      × (procedure_of program q ≡ procedure_of program p)
  stays never p q reached (o, at, inl (g, e)) =
      let within = slice_get_within program.code p o at in
      let there : p + 1 < length program.code = elim (cases_lt (p + 1) (length program.code)) [
        | inl lt ↦ lt
        | inr past ↦ absurd (never p within reached (record { operation = o; here = at; goes = g; out = λ h. omega (arith, h.0, past) }))
      ] in
      let same = same_by (eqb (procedure_of program (p + 1)) (procedure_of program p)) refl in
      (rw e there, ap (procedure_of program) e ∙ same)
    where
      same_by : (b : Bool) → eqb (procedure_of program (p + 1)) (procedure_of program p) ≡ b → procedure_of program (p + 1) ≡ procedure_of program p
      same_by true t = eqb-true (procedure_of program (p + 1)) (procedure_of program p) t
      same_by false t =
          absurd (never p (slice_get_within program.code p o at) reached (record {
            operation = o;
            here = at;
            goes = g;
            out = λ h. let y = eq-eqb (procedure_of program (p + 1)) (procedure_of program p) h.1 in absurd cc;
          }))
  stays never p q reached (o, at, inr to) = (jump_within o q (in_range_at p o at) to, in_range.jumps p q o at to)

  pub leads_inside : StaysInside program → LeadsInside program
  leads_inside stays p q reached (o, at, inl next) = (stays.inside p q reached (o, at, inl next)).0
  leads_inside stays p q reached (o, at, inr to) = elim (by_kind o q to) [
    | inl jumps ↦ (stays.inside p q reached (o, at, inr jumps)).0
    | inr (b, is, first) ↦ entered_within b q first
  ]
