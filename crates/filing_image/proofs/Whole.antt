-- The two laws of an image's octets: what is read is spelled so, and what is spelled so is read.
use Rattle.std.proofs.Common.{◌≡◌, ℕ, suc, ◌^◌, ◌<◌, Bool, true, false, cond, eqb, ◌&&◌, List, [], ◌∷◌, ◌++◌, length}
use Rattle.std.proofs.Common.{All, Option, Some, None, refl, sym, ap, subst, ◌∙◌, append_assoc, arith, inl, inr, ◌⊎◌}
use Rattle.std.specs.List.{flat_map}
use Rattle.std.specs.Int.{w16, w32, w64, to_be_bytes}
use Rattle.std.proofs.lemmas.Bool.{eqb-true, and_parts}
use Rattle.std.proofs.lemmas.List.{append-nil, nil_from_length}
use Rattle.std.proofs.lemmas.List.Elements.{All-from_recursion, recursion_from_All}
use Rattle.filing_image.specs.declared.instruction.Instruction.{Instruction}
use Rattle.filing_image.specs.declared.version.Version.{Version}
use Rattle.filing_image.specs.declared.version.Version.TheVariants.{One, Two}
use Rattle.filing_image.specs.Program.{Parts, version_of, firsts_of}
use Rattle.filing_image.specs.Spelling.{mark, text, instruction, procedure_count, procedures, spelling, FitsInstruction, FitsOctets}
use Rattle.filing_image.specs.Reading.{◌>>=◌, number_at, text_at, instruction_at, many_at, version_of_octet, version_and_rest, procedure_count_at}
use Rattle.filing_image.specs.Reading.{procedures_at, Counts, counts_at, parts_at, all_of}
use Rattle.filing_image.proofs.Fields.{IsBytes, bind_some, bind_is, some_is, Takes, Takes-then, wide16, wide32, wide64, number_takes, number_again}
use Rattle.filing_image.proofs.Fields.{text_takes, text_again, instruction_takes, instruction_again}
use Rattle.filing_image.proofs.Many.{many_takes, many_again}

-- ---- the mark

kept_some : {A : Type 0} (b : Bool) (x y : A) → cond b (Some x) None ≡ Some y → (b ≡ true) × (x ≡ y)
kept_some true x y e = (refl, cc)
kept_some false x y e = absurd cc

kept : {A : Type 0} (b : Bool) (x : Option A) (y : A) → cond b x None ≡ Some y → (b ≡ true) × (x ≡ Some y)
kept true x y e = (refl, e)
kept false x y e = absurd cc

chosen : (a b : Bool) (v : Version) → cond a (Some One) (cond b (Some Two) None) ≡ Some v → ((a ≡ true) × (v ≡ One)) ⊎ ((b ≡ true) × (v ≡ Two))
chosen true b v e = inl (refl, cc)
chosen false true v e = inr (refl, cc)
chosen false false v e = absurd cc

-- the octet of a version is the last of its mark
told_is : (d : ℕ) (v : Version) → version_of_octet d ≡ Some v → 0x53 ∷ 0x46 ∷ 0x49 ∷ d ∷ [] ≡ mark v
told_is d v e = elim (chosen (eqb d 0x31) (eqb d 0x32) v e) [
  | inl (t, is) ↦ let d-is : d ≡ 0x31 = eqb-true _ _ t in rw (d-is, is) refl
  | inr (t, is) ↦ let d-is : d ≡ 0x32 = eqb-true _ _ t in rw (d-is, is) refl
]

abbrev with_rest : List ℕ → Version → Option (Version × List ℕ)
with_rest rest v = Some (v, rest)

mark_takes : (octets : List ℕ) (x : Version × List ℕ) → IsBytes octets → version_and_rest octets ≡ Some x → Takes octets (mark x.0) x.1
unfolding version_and_rest
mark_takes (a ∷ b ∷ c ∷ d ∷ octets) x fits e =
    let g = kept (eqb a 0x53 && (eqb b 0x46 && eqb c 0x49)) (version_of_octet d >>= with_rest octets) x e in
    let g0 = and_parts (eqb a 0x53) (eqb b 0x46 && eqb c 0x49) g.0 in
    let g1 = and_parts (eqb b 0x46) (eqb c 0x49) g0.1 in
    let a-is : a ≡ 0x53 = eqb-true _ _ g0.0 in
    let b-is : b ≡ 0x46 = eqb-true _ _ g1.0 in
    let c-is : c ≡ 0x49 = eqb-true _ _ g1.1 in
    let v = bind_some (version_of_octet d) (with_rest octets) x g.1 in
    let marks : 0x53 ∷ 0x46 ∷ 0x49 ∷ d ∷ [] ≡ mark v.0 = told_is d v.0 v.1 in
    let front : a ∷ b ∷ c ∷ d ∷ octets ≡ 0x53 ∷ 0x46 ∷ 0x49 ∷ d ∷ octets = cc (a-is, b-is, c-is) in
    let here : Takes (a ∷ b ∷ c ∷ d ∷ octets) (mark v.0) octets =
    record {
      parts = front ∙ ap (λ (m : List ℕ). m ++ octets) marks;
      rest_fits = λ i.
          fits (suc (suc (suc (suc i))));
    } in
    let made : Version × List ℕ = (v.0, octets) in
    subst (λ (y : Version × List ℕ). Takes (a ∷ b ∷ c ∷ d ∷ octets) (mark y.0) y.1) (some_is made x v.2) here
mark_takes octets x fits e = absurd cc

mark_again : (v : Version) (rest : List ℕ) → version_and_rest (mark v ++ rest) ≡ Some (v, rest)
unfolding version_and_rest
mark_again One rest = refl
mark_again Two rest = refl

-- ---- procedures

-- how many there are, where there are any
abbrev count_of : Option ℕ → List ℕ
count_of None = []
count_of (Some n) = to_be_bytes w16 n

abbrev version_with : Option ℕ → Version
version_with None = One
version_with (Some n) = Two

abbrev FitsCount : Option ℕ → Type 0
FitsCount None = Unit {0}
FitsCount (Some n) = n < 2 ^ 16

abbrev length_of : Option (List ℕ) → Option ℕ
length_of None = None
length_of (Some firsts) = Some (length firsts)

abbrev counted_procedures : ℕ × List ℕ → Option (Option ℕ × List ℕ)
counted_procedures n = Some (Some n.0, n.1)

abbrev some_procedures : List ℕ × List ℕ → Option (Option (List ℕ) × List ℕ)
some_procedures x = Some (Some x.0, x.1)

procedure_count_takes : (v : Version) (octets : List ℕ) (x : Option ℕ × List ℕ) → IsBytes octets
    → procedure_count_at v octets ≡ Some x → Takes octets (count_of x.0) x.1 × FitsCount x.0 × (version_with x.0 ≡ v)
unfolding procedure_count_at
procedure_count_takes One octets x fits e =
    let made : Option ℕ × List ℕ = (None, octets) in
    subst (λ (y : Option ℕ × List ℕ). Takes octets (count_of y.0) y.1 × FitsCount y.0
    × (version_with y.0 ≡ One)) (some_is made x e) (record { parts = refl; rest_fits = fits }, tt, refl)
procedure_count_takes Two octets x fits e =
    let a = bind_some (number_at w16 octets) counted_procedures x e in
    let t = number_takes wide16 octets a.0 fits a.1 in
    let made : Option ℕ × List ℕ = (Some a.0.0, a.0.1) in
    subst (λ (y : Option ℕ × List ℕ). Takes octets (count_of y.0) y.1 × FitsCount y.0
    × (version_with y.0 ≡ Two)) (some_is made x a.2) (t.0, t.1, refl)

procedure_count_again : (n : Option ℕ) (rest : List ℕ) → FitsCount n → procedure_count_at (version_with n) (count_of n ++ rest) ≡ Some (n, rest)
unfolding procedure_count_at
procedure_count_again None rest fits = refl
procedure_count_again (Some n) rest fits = bind_is (number_at w16 (to_be_bytes w16 n ++ rest)) counted_procedures (
  n,
  rest,
) (number_again wide16 n rest fits)

procedures_take : (n : Option ℕ) (octets : List ℕ) (x : Option (List ℕ) × List ℕ) → IsBytes octets
    → procedures_at n octets ≡ Some x → Takes octets (procedures x.0) x.1 × (length_of x.0 ≡ n)
    × All (λ f. f < 2 ^ 16) (firsts_of x.0)
unfolding procedures_at
procedures_take None octets x fits e =
    let made : Option (List ℕ) × List ℕ = (None, octets) in
    subst (λ (y : Option (List ℕ) × List ℕ). Takes octets (procedures y.0) y.1 × (length_of y.0 ≡ None)
    × All (λ f. f < 2 ^ 16) (firsts_of y.0)) (some_is made x e) (
      record { parts = refl; rest_fits = fits },
      refl,
      All-from_recursion (λ f. f < 2 ^ 16) [] tt,
    )
procedures_take (Some n) octets x fits e =
    let a = bind_some (many_at (number_at w16) n octets) some_procedures x e in
    let t = many_takes (number_at w16) (to_be_bytes w16) (λ k. k < 2 ^ 16) (number_takes wide16) n octets a.0 fits a.1 in
    let made : Option (List ℕ) × List ℕ = (Some a.0.0, a.0.1) in
    subst (λ (y : Option (List ℕ) × List ℕ). Takes octets (procedures y.0) y.1 × (length_of y.0 ≡ Some n)
    × All (λ f. f < 2 ^ 16) (firsts_of y.0)) (some_is made x a.2) (
      t.0,
      ap Some t.1,
      All-from_recursion (λ k. k < 2 ^ 16) a.0.0 t.2,
    )

procedures_again : (firsts : Option (List ℕ)) (rest : List ℕ) → All (λ f. f < 2 ^ 16) (firsts_of firsts)
    → procedures_at (length_of firsts) (procedures firsts ++ rest) ≡ Some (firsts, rest)
unfolding procedures_at
procedures_again None rest fits = refl
procedures_again (Some firsts) rest fits =
    bind_is (many_at (number_at w16) (length firsts) (flat_map (to_be_bytes w16) firsts ++ rest)) some_procedures
    (firsts, rest) (many_again (number_at w16) (to_be_bytes w16) (λ k.
    k < 2 ^ 16) (number_again wide16) firsts rest (recursion_from_All (λ k. k < 2 ^ 16) firsts fits))

count_is : (firsts : Option (List ℕ)) → procedure_count firsts ≡ count_of (length_of firsts)
count_is None = refl
count_is (Some firsts) = refl

count_fits : (firsts : Option (List ℕ)) → length (firsts_of firsts) < 2 ^ 16 → FitsCount (length_of firsts)
count_fits None fits = tt
count_fits (Some firsts) fits = fits

fits_count : (firsts : Option (List ℕ)) → FitsCount (length_of firsts) → length (firsts_of firsts) < 2 ^ 16
fits_count None fits = omega arith
fits_count (Some firsts) fits = fits

-- ---- the counts

abbrev counted : ℕ → ℕ → ℕ → Option ℕ → ℕ × List ℕ → Option (Counts × List ℕ)
counted texts numbers slots procedures instructions =
    Some (
      record {
        texts = texts;
        numbers = numbers;
        slots = slots;
        procedures = procedures;
        instructions =
            instructions.0;
      },
      instructions.1,
    )

abbrev after_procedures : ℕ → ℕ → ℕ → Option ℕ × List ℕ → Option (Counts × List ℕ)
after_procedures texts numbers slots procedures = number_at w16 procedures.1 >>= counted texts numbers slots procedures.0

abbrev after_slots : Version → ℕ → ℕ → ℕ × List ℕ → Option (Counts × List ℕ)
after_slots v texts numbers slots = procedure_count_at v slots.1 >>= after_procedures texts numbers slots.0

abbrev after_number_count : Version → ℕ → ℕ × List ℕ → Option (Counts × List ℕ)
after_number_count v texts numbers = number_at w16 numbers.1 >>= after_slots v texts numbers.0

abbrev after_text_count : Version → ℕ × List ℕ → Option (Counts × List ℕ)
after_text_count v texts = number_at w16 texts.1 >>= after_number_count v texts.0

abbrev counts : Counts → List ℕ
counts x = to_be_bytes w16 x.texts
    ++ (to_be_bytes w16 x.numbers
    ++ (to_be_bytes w16 x.slots ++ (count_of x.procedures ++ to_be_bytes w16 x.instructions)))

record FitsCounts (x : Counts) : Type 0 where
  texts : x.texts < 2 ^ 16
  numbers : x.numbers < 2 ^ 16
  slots : x.slots < 2 ^ 16
  procedures : FitsCount x.procedures
  instructions : x.instructions < 2 ^ 16

counts_take : (v : Version) (octets : List ℕ) (x : Counts × List ℕ) → IsBytes octets → counts_at v octets ≡ Some x
    → Takes octets (counts x.0) x.1 × FitsCounts x.0 × (version_with x.0.procedures ≡ v)
unfolding counts_at
counts_take v octets x fits e =
    let a = bind_some (number_at w16 octets) (after_text_count v) x e in
    let b = bind_some (number_at w16 a.0.1) (after_number_count v a.0.0) x a.2 in
    let c = bind_some (number_at w16 b.0.1) (after_slots v a.0.0 b.0.0) x b.2 in
    let p = bind_some (procedure_count_at v c.0.1) (after_procedures a.0.0 b.0.0 c.0.0) x c.2 in
    let d = bind_some (number_at w16 p.0.1) (counted a.0.0 b.0.0 c.0.0 p.0.0) x p.2 in
    let t0 = number_takes wide16 octets a.0 fits a.1 in
    let t1 = number_takes wide16 a.0.1 b.0 t0.0.rest_fits b.1 in
    let t2 = number_takes wide16 b.0.1 c.0 t1.0.rest_fits c.1 in
    let t3 = procedure_count_takes v c.0.1 p.0 t2.0.rest_fits p.1 in
    let t4 = number_takes wide16 p.0.1 d.0 t3.0.rest_fits d.1 in
    let made : Counts × List ℕ = (record { texts = a.0.0; numbers = b.0.0; slots = c.0.0; procedures = p.0.0; instructions = d.0.0 }, d.0.1) in
    subst (λ (y : Counts × List ℕ). Takes octets (counts y.0) y.1 × FitsCounts y.0
    × (version_with y.0.procedures ≡ v)) (some_is made x d.2) (
      Takes-then t0.0 (Takes-then t1.0 (Takes-then t2.0 (Takes-then t3.0 t4.0))),
      record { texts = t0.1; numbers = t1.1; slots = t2.1; procedures = t3.1; instructions = t4.1 },
      t3.2,
    )

counts_again : (x : Counts) (rest : List ℕ) → FitsCounts x → counts_at (version_with x.procedures) (counts x ++ rest) ≡ Some (x, rest)
unfolding counts_at
counts_again x rest fits =
    let v = version_with x.procedures in
    let r4 : List ℕ = to_be_bytes w16 x.instructions ++ rest in
    let r3 : List ℕ = count_of x.procedures ++ r4 in
    let r2 : List ℕ = to_be_bytes w16 x.slots ++ r3 in
    let r1 : List ℕ = to_be_bytes w16 x.numbers ++ r2 in
    let r0 : List ℕ = to_be_bytes w16 x.texts ++ r1 in
    let regrouped : counts x ++ rest ≡ r0 = simp append_assoc in
    ap (counts_at v) regrouped
    ∙ bind_is (number_at w16 r0) (after_text_count v) (x.texts, r1) (number_again wide16 x.texts r1 fits.texts)
    ∙ bind_is (number_at w16 r1) (after_number_count v x.texts) (x.numbers, r2) (number_again wide16 x.numbers r2 fits.numbers)
    ∙ bind_is (number_at w16 r2) (after_slots v x.texts x.numbers) (x.slots, r3) (number_again wide16 x.slots r3 fits.slots)
    ∙ bind_is (procedure_count_at v r3) (after_procedures x.texts x.numbers x.slots) (
      x.procedures,
      r4,
    ) (procedure_count_again x.procedures r4 fits.procedures)
    ∙ bind_is (number_at w16 r4) (counted x.texts x.numbers x.slots x.procedures) (
      x.instructions,
      rest,
    ) (number_again wide16 x.instructions rest fits.instructions)

-- ---- the parts

abbrev made_of : ℕ → Counts → List (List ℕ) → List ℕ → Option (List ℕ) → List Instruction × List ℕ → Option (Parts × List ℕ)
made_of budget c texts numbers procedures instructions =
    Some (
      record {
        budget = budget;
        texts = texts;
        numbers = numbers;
        slots = c.slots;
        procedures = procedures;
        instructions = instructions.0;
      },
      instructions.1,
    )

abbrev after_firsts : ℕ → Counts → List (List ℕ) → List ℕ → Option (List ℕ) × List ℕ → Option (Parts × List ℕ)
after_firsts budget c texts numbers procedures = many_at instruction_at c.instructions procedures.1 >>= made_of budget c texts numbers procedures.0

abbrev after_numbers : ℕ → Counts → List (List ℕ) → List ℕ × List ℕ → Option (Parts × List ℕ)
after_numbers budget c texts numbers = procedures_at c.procedures numbers.1 >>= after_firsts budget c texts numbers.0

abbrev after_texts : ℕ → Counts → List (List ℕ) × List ℕ → Option (Parts × List ℕ)
after_texts budget c texts = many_at (number_at w64) c.numbers texts.1 >>= after_numbers budget c texts.0

abbrev after_counts : ℕ → Counts × List ℕ → Option (Parts × List ℕ)
after_counts budget c = many_at text_at c.0.texts c.1 >>= after_texts budget c.0

abbrev after_budget : Version → ℕ × List ℕ → Option (Parts × List ℕ)
after_budget v budget = counts_at v budget.1 >>= after_counts budget.0

abbrev after_mark : Version × List ℕ → Option (Parts × List ℕ)
after_mark v = number_at w32 v.1 >>= after_budget v.0

abbrev body : List (List ℕ) → List ℕ → Option (List ℕ) → List Instruction → List ℕ
body texts numbers firsts instructions = flat_map text texts
    ++ (flat_map (to_be_bytes w64) numbers ++ (procedures firsts ++ flat_map instruction instructions))

-- a spelling with a given version and given counts
abbrev spelled : Version → ℕ → Counts → List (List ℕ) → List ℕ → Option (List ℕ) → List Instruction → List ℕ
spelled v budget c texts numbers firsts instructions = mark v ++ (to_be_bytes w32 budget ++ (counts c ++ body texts numbers firsts instructions))

abbrev counts_of : Parts → Counts
counts_of p = record {
  texts = length p.texts;
  numbers = length p.numbers;
  slots = p.slots;
  procedures =
      length_of p.procedures;
  instructions = length p.instructions;
}

counts_are : (c : Counts) (p : Parts) → c.texts ≡ length p.texts → c.numbers ≡ length p.numbers → c.slots ≡ p.slots
    → c.procedures ≡ length_of p.procedures → c.instructions ≡ length p.instructions → c ≡ counts_of p
counts_are c p a b s f d =
    let parts : (c.texts, c.numbers, c.slots, c.procedures, c.instructions)
    ≡ (length p.texts, length p.numbers, p.slots, length_of p.procedures, length p.instructions) = cc in
    ap (λ (t : ℕ × ℕ × ℕ × Option ℕ × ℕ). record { texts = t.0; numbers = t.1; slots = t.2; procedures = t.3; instructions = t.4 }) parts

-- the spelling of parts, whose count of procedures is by cases
spelling_by : (firsts : Option (List ℕ)) (budget texts numbers slots instructions rest : List ℕ)
    → mark (version_of firsts) ++ (budget ++ (texts ++ (numbers ++ (slots ++ (procedure_count firsts ++ (instructions ++ rest))))))
    ≡ mark (version_with (length_of firsts)) ++ (budget ++ ((texts ++ (numbers ++ (slots ++ (count_of (length_of firsts) ++ instructions)))) ++ rest))
spelling_by None budget texts numbers slots instructions rest = simp append_assoc
spelling_by (Some firsts) budget texts numbers slots instructions rest = simp append_assoc

spelling_is : (p : Parts)
    → spelling p ≡ spelled (version_with (length_of p.procedures)) p.budget (counts_of p) p.texts p.numbers p.procedures
    p.instructions
unfolding spelling
spelling_is p =
    spelling_by p.procedures (to_be_bytes w32 p.budget) (to_be_bytes w16 (length p.texts))
    (to_be_bytes w16 (length p.numbers)) (to_be_bytes w16 p.slots) (to_be_bytes w16 (length p.instructions))
    (body p.texts p.numbers p.procedures p.instructions)

pub parts_take : (octets : List ℕ) (x : Parts × List ℕ) → IsBytes octets → parts_at octets ≡ Some x → Takes octets (spelling x.0) x.1 × FitsOctets x.0
unfolding parts_at
parts_take octets x fits e =
    let m = bind_some (version_and_rest octets) after_mark x e in
    let v = m.0.0 in
    let b = bind_some (number_at w32 m.0.1) (after_budget v) x m.2 in
    let c = bind_some (counts_at v b.0.1) (after_counts b.0.0) x b.2 in
    let t = bind_some (many_at text_at c.0.0.texts c.0.1) (after_texts b.0.0 c.0.0) x c.2 in
    let n = bind_some (many_at (number_at w64) c.0.0.numbers t.0.1) (after_numbers b.0.0 c.0.0 t.0.0) x t.2 in
    let f = bind_some (procedures_at c.0.0.procedures n.0.1) (after_firsts b.0.0 c.0.0 t.0.0 n.0.0) x n.2 in
    let i = bind_some (many_at instruction_at c.0.0.instructions f.0.1) (made_of b.0.0 c.0.0 t.0.0 n.0.0 f.0.0) x f.2 in
    let t0 = mark_takes octets m.0 fits m.1 in
    let t1 = number_takes wide32 m.0.1 b.0 t0.rest_fits b.1 in
    let t2 = counts_take v b.0.1 c.0 t1.0.rest_fits c.1 in
    let t3 = many_takes text_at text (λ s. length s < 2 ^ 16) text_takes c.0.0.texts c.0.1 t.0 t2.0.rest_fits t.1 in
    let t4 = many_takes (number_at w64) (to_be_bytes w64) (λ k.
    k < 2 ^ 64) (number_takes wide64) c.0.0.numbers t.0.1 n.0 t3.0.rest_fits n.1 in
    let t5 = procedures_take c.0.0.procedures n.0.1 f.0 t4.0.rest_fits f.1 in
    let t6 = many_takes instruction_at instruction FitsInstruction instruction_takes c.0.0.instructions f.0.1 i.0 t5.0.rest_fits i.1 in
    let e06 : Takes octets (spelled v b.0.0 c.0.0 t.0.0 n.0.0 f.0.0 i.0.0) i.0.1 =
    Takes-then t0 (Takes-then t1.0 (Takes-then t2.0 (Takes-then t3.0 (Takes-then t4.0 (Takes-then t5.0 t6.0))))) in
    let made : Parts
    × List ℕ = (
      record {
        budget = b.0.0;
        texts = t.0.0;
        numbers = n.0.0;
        slots = c.0.0.slots;
        procedures = f.0.0;
        instructions = i.0.0;
      },
      i.0.1,
    ) in
    let same : c.0.0 ≡ counts_of made.0 = counts_are c.0.0 made.0 (sym t3.1) (sym t4.1) refl (sym t5.1) (sym t6.1) in
    let version : v ≡ version_with (length_of f.0.0) = sym t2.2 ∙ ap version_with (sym t5.1) in
    let told : spelled v b.0.0 c.0.0 t.0.0 n.0.0 f.0.0 i.0.0
    ≡ spelled (version_with (length_of f.0.0)) b.0.0 c.0.0 t.0.0 n.0.0 f.0.0 i.0.0 =
    ap (λ (w : Version). spelled w b.0.0 c.0.0 t.0.0 n.0.0 f.0.0 i.0.0) version in
    let counted_so : spelled (version_with (length_of f.0.0)) b.0.0 c.0.0 t.0.0 n.0.0 f.0.0 i.0.0 ≡ spelling made.0 =
    ap (λ (k : Counts). spelled (version_with (length_of f.0.0)) b.0.0 k t.0.0 n.0.0 f.0.0 i.0.0) same
    ∙ sym (spelling_is made.0) in
    let whole : Takes octets (spelling made.0) i.0.1 = subst (λ (s : List ℕ). Takes octets s i.0.1) (told ∙ counted_so) e06 in
    let fine : FitsOctets made.0 = record {
      short = record {
        text_count = rw t3.1 t2.1.texts;
        number_count = rw t4.1 t2.1.numbers;
        procedure_count = fits_count f.0.0 (subst FitsCount (sym t5.1) t2.1.procedures);
        instruction_count = rw t6.1 t2.1.instructions;
        texts = All-from_recursion (λ s. length s < 2 ^ 16) t.0.0 t3.2;
      };
      budget = t1.1;
      slots = t2.1.slots;
      numbers = All-from_recursion (λ k. k < 2 ^ 64) n.0.0 t4.2;
      firsts = t5.2;
      instructions = All-from_recursion FitsInstruction i.0.0 t6.2;
    } in
    subst (λ (y : Parts × List ℕ). Takes octets (spelling y.0) y.1 × FitsOctets y.0) (some_is made x i.2) (whole, fine)

pub parts_again : (p : Parts) (rest : List ℕ) → FitsOctets p → parts_at (spelling p ++ rest) ≡ Some (p, rest)
unfolding parts_at
parts_again p rest fits =
    let c = counts_of p in
    let v = version_with (length_of p.procedures) in
    let r6 : List ℕ = flat_map instruction p.instructions ++ rest in
    let r5 : List ℕ = procedures p.procedures ++ r6 in
    let r4 : List ℕ = flat_map (to_be_bytes w64) p.numbers ++ r5 in
    let r3 : List ℕ = flat_map text p.texts ++ r4 in
    let r2 : List ℕ = counts c ++ r3 in
    let r1 : List ℕ = to_be_bytes w32 p.budget ++ r2 in
    let whole : (mark v ++ (to_be_bytes w32 p.budget ++ (counts c ++ body p.texts p.numbers p.procedures p.instructions))) ++ rest ≡ mark v ++ r1 =
    simp append_assoc in
    let regrouped : spelling p ++ rest ≡ mark v ++ r1 = ap (λ (s : List ℕ). s ++ rest) (spelling_is p) ∙ whole in
    let fits_counts : FitsCounts c = record {
      texts = fits.short.text_count;
      numbers = fits.short.number_count;
      slots =
          fits.slots;
      procedures = count_fits p.procedures fits.short.procedure_count;
      instructions =
          fits.short.instruction_count;
    } in
    ap parts_at regrouped
    ∙ bind_is (version_and_rest (mark v ++ r1)) after_mark (v, r1) (mark_again v r1)
    ∙ bind_is (number_at w32 r1) (after_budget v) (p.budget, r2) (number_again wide32 p.budget r2 fits.budget)
    ∙ bind_is (counts_at v r2) (after_counts p.budget) (c, r3) (counts_again c r3 fits_counts)
    ∙ bind_is (many_at text_at (length p.texts) r3) (after_texts p.budget c) (
      p.texts,
      r4,
    ) (many_again text_at text (λ s. length s < 2 ^ 16) text_again p.texts r4 (recursion_from_All (λ s.
    length s < 2 ^ 16) p.texts fits.short.texts))
    ∙ bind_is (many_at (number_at w64) (length p.numbers) r4) (after_numbers p.budget c p.texts) (
      p.numbers,
      r5,
    ) (many_again (number_at w64) (to_be_bytes w64) (λ k. k < 2 ^ 64) (number_again wide64) p.numbers
    r5 (recursion_from_All (λ k. k < 2 ^ 64) p.numbers fits.numbers))
    ∙ bind_is (procedures_at (length_of p.procedures) r5) (after_firsts p.budget c p.texts p.numbers) (
      p.procedures,
      r6,
    ) (procedures_again p.procedures r6 fits.firsts)
    ∙ bind_is (many_at instruction_at (length p.instructions) r6) (made_of p.budget c p.texts p.numbers p.procedures)
    (p.instructions, rest) (many_again instruction_at instruction FitsInstruction instruction_again p.instructions
    rest (recursion_from_All FitsInstruction p.instructions fits.instructions))

-- ---- all of the octets

abbrev ended : Parts × List ℕ → Option Parts
ended x = cond (eqb (length x.1) 0) (Some x.0) None

pub all_takes : (octets : List ℕ) (p : Parts) → IsBytes octets → all_of octets ≡ Some p → (octets ≡ spelling p) × FitsOctets p
unfolding all_of
all_takes octets p fits e =
    let a = bind_some (parts_at octets) ended p e in
    let g = kept_some (eqb (length a.0.1) 0) a.0.0 p a.2 in
    let t = parts_take octets a.0 fits a.1 in
    let nothing : a.0.1 ≡ [] = nil_from_length a.0.1 (eqb-true _ _ g.0) in
    let whole : octets ≡ spelling a.0.0 = t.0.parts ∙ ap (λ (r : List ℕ). spelling a.0.0 ++ r) nothing ∙ append-nil (spelling a.0.0) in
    subst (λ (q : Parts). (octets ≡ spelling q) × FitsOctets q) g.1 (whole, t.1)

pub all_again : (p : Parts) → FitsOctets p → all_of (spelling p) ≡ Some p
unfolding all_of
all_again p fits =
    let read : parts_at (spelling p) ≡ Some (p, []) = ap parts_at (sym (append-nil (spelling p))) ∙ parts_again p [] fits in
    bind_is (parts_at (spelling p)) ended (p, []) read
