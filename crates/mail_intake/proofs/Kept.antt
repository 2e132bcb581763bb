-- The fields of octets that keep a memory.
use Rattle.std.proofs.Common.{◌≡◌, ◌<◌, ◌^◌, ◌+◌, ◌-◌, ◌==◌, ◌%◌, ℕ, Bool, true, false, not, ◌&&◌, List, [], ◌∷◌, ◌++◌}
use Rattle.std.proofs.Common.{map, take, drop, get_or, length, Some, subst, refl, ap, sym, ◌∙◌, inl, inr, arith, append_assoc}
use Rattle.std.proofs.lemmas.Bool.{cases_Bool}
use Rattle.std.proofs.lemmas.Bool.Decides.{nat_tests}
use Rattle.std.proofs.lemmas.Fmt.{decimal_by_steps}
use Rattle.std.proofs.lemmas.List.{take_all}
use Rattle.std.proofs.lemmas.List.Folds.{list_all-append}
use Rattle.std.specs.Fmt.{decimal}
use Rattle.std.specs.List.{AllByRecursion, flat_map, onto_first}
use Rattle.mail_intake.specs.Telling.{CanBeKept, HasNoNul, IsPlain, Memory, Told, entries_of, entry, field, fields_of, spelling}

-- ---- what is spelled is cut into its fields again

both : (a b : Bool) → a ≡ true → b ≡ true → (a && b) ≡ true
both a b ea eb = λ i. ea i && eb i

digit_plain : (d : ℕ) → HasNoNul ((48 + d) ∷ [])
digit_plain d = grind (arith, nat_tests)

day_plain : (n : ℕ) → n < 2 ^ 64 → HasNoNul (decimal n)
day_plain =
    decimal_by_steps (λ n ds. HasNoNul ds) (λ n h. digit_plain n)
    (λ n ds h p. list_all-append (λ o. not (o == 0)) ds ((48 + n % 10) ∷ []) ∙ both _ _ p (digit_plain (n % 10)))

fields_first : (w rest : List ℕ) → HasNoNul w → fields_of (w ++ 0 ∷ rest) ≡ w ∷ fields_of rest
fields_first [] rest h = refl
fields_first (x ∷ xs) rest h = elim (cases_Bool (x == 0)) [
  | inl is ↦ let k : false ≡ true = rw is at h in absurd (cc)
  | inr other ↦ let more : HasNoNul xs = rw other at h in rw (other, fields_first xs rest more) refl
]

field_first : (w rest : List ℕ) → HasNoNul w → fields_of (field w ++ rest) ≡ w ∷ fields_of rest
field_first w rest h = ap fields_of (append_assoc w (0 ∷ []) rest) ∙ fields_first w rest h

-- the fields of entries, and what follows the last NUL
abbrev texts : List Told → List (List ℕ)
texts [] = [] ∷ []
texts (t ∷ ts) = t.name ∷ t.words ∷ texts ts

fields_texts : (ts : List Told) → AllByRecursion IsPlain ts → fields_of (flat_map entry ts) ≡ texts ts
fields_texts [] h = refl
fields_texts (t ∷ ts) h =
    ap fields_of (append_assoc (field t.name) (field t.words) (flat_map entry ts))
    ∙ field_first t.name (field t.words ++ flat_map entry ts) h.0.0
    ∙ ap (λ l. t.name ∷ l) (field_first t.words (flat_map entry ts) h.0.1 ∙ ap (λ l. t.words ∷ l) (fields_texts ts h.1))

entries_texts : (ts : List Told) → entries_of (texts ts) ≡ ts
entries_texts [] = refl
entries_texts (t ∷ ts) = ap (λ l. t ∷ l) (entries_texts ts)

-- the first field is the day, and the others are the entries
pub fields_kept : (m : Memory) → CanBeKept m
    → (rest : List (List ℕ)) × (fields_of (spelling m) ≡ decimal m.day ∷ rest) × (entries_of rest ≡ m.told)
fields_kept m h = (
  texts m.told,
  field_first (decimal m.day) (flat_map entry m.told) (day_plain m.day h.day) ∙ ap (λ l. decimal m.day ∷ l) (fields_texts m.told h.told),
  entries_texts m.told,
)

-- ---- fields have no NUL

onto_plain : (x : ℕ) (parts : List (List ℕ)) → (x == 0) ≡ false → AllByRecursion HasNoNul parts → AllByRecursion HasNoNul (onto_first x parts)
onto_plain x [] other h = (rw other refl, tt)
onto_plain x (p ∷ ps) other h = (rw other h.0, h.1)

pub fields_plain : (octets : List ℕ) → AllByRecursion HasNoNul (fields_of octets)
fields_plain [] = (refl, tt)
fields_plain (x ∷ xs) = elim (cases_Bool (x == 0)) [
  | inl is ↦ rw is (refl, fields_plain xs)
  | inr other ↦ rw other (onto_plain x (fields_of xs) other (fields_plain xs))
]

pub entries_plain : (fields : List (List ℕ)) → AllByRecursion HasNoNul fields → AllByRecursion IsPlain (entries_of fields)
entries_plain [] h = tt
entries_plain (name ∷ []) h = tt
entries_plain (name ∷ words ∷ rest) h = ((h.0, h.1.0), entries_plain rest h.1.1)

-- ---- the first field and the others, where they are lent

pub some_same : {X : Type 0} (x y : X) → Some x ≡ Some y → x ≡ y
some_same x y e = cc

module _ {X : Type 0} (view : X → List ℕ) where
  pub some_of : (fields : List X) (y : List ℕ) (ys : List (List ℕ)) → map view fields ≡ y ∷ ys → length fields < 1 → ⊥
  some_of [] y ys e few = absurd cc
  some_of (x ∷ xs) y ys e few = omega (arith, few)

  pub first_of : (fields : List X) (d : X) (y : List ℕ) (ys : List (List ℕ)) → map view fields ≡ y ∷ ys → view (get_or fields 0 d) ≡ y
  first_of [] d y ys e = absurd cc
  first_of (x ∷ xs) d y ys e = cc

  pub others_of : (fields : List X) (y : List ℕ) (ys : List (List ℕ)) → map view fields ≡ y ∷ ys
      → map view (take (length fields - 1) (drop 1 fields)) ≡ ys
  others_of [] y ys e = absurd cc
  others_of (x ∷ xs) y ys e =
      let rest : map view xs ≡ ys = cc in
      ap (map view) (take_all (length (x ∷ xs) - 1) xs (omega arith)) ∙ rest

  pub others_all : (fields : List X) (ys : List (List ℕ)) → map view fields ≡ ys → AllByRecursion HasNoNul ys
      → AllByRecursion HasNoNul (map view (take (length fields - 1) (drop 1 fields)))
  others_all [] ys e h = tt
  others_all (x ∷ xs) [] e h = absurd cc
  others_all (x ∷ xs) (y ∷ ys) e h = subst (AllByRecursion HasNoNul) (sym (others_of (x ∷ xs) y ys e)) h.1
