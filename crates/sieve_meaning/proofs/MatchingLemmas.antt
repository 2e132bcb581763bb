-- What the functions of `Matching` compute agrees with its relations.
use Rattle.std.proofs.Common.{◌≡◌, ℕ, zero, suc, Bool, true, false, eqb, List, [], ◌∷◌, ◌++◌, length, take, drop, inl}
use Rattle.std.proofs.Common.{inr, ◌↔◌, IsTrue, refl, sym, ap, ◌∙◌}
use Rattle.std.specs.List.{list_any, starts_with}
use Rattle.std.proofs.lemmas.Bool.{eqb-true, eq-eqb, or_cases, or_left, or_right, and_parts, and_from, false≢true}
use Rattle.std.proofs.lemmas.Bool.Decides.{Decides-eqb}
use Rattle.std.proofs.lemmas.Slice.Eq.{bytes_eq-Decides, starts_is}
use Rattle.std.proofs.lemmas.List.{take-append-drop}
use Rattle.std.proofs.Math.Seq.{drop-nil, drop-append_seam}
use Rattle.sieve_meaning.specs.declared.matching.Comparator.{Comparator}
use Rattle.sieve_meaning.specs.declared.matching.Item.{Item}
use Rattle.sieve_meaning.specs.declared.matching.Item.TheVariants.{Octet, One, Any}
use Rattle.sieve_meaning.specs.Matching.{fold_octet, fold, IsEqualUnder, Contains, Matches, suffixes, equals, contains, covers}

-- if some suffix passes a test, the suffix from some place passes it
pub suffix_from_any : (p : List ℕ → Bool) (text : List ℕ) → list_any p (suffixes text) ≡ true → (n : ℕ) × (p (drop n text) ≡ true)
unfolding suffixes
suffix_from_any p [] h = elim (or_cases (p []) false h) [ inl e ↦ (0, e) | inr e ↦ absurd (false≢true e) ]
suffix_from_any p (b ∷ bs) h = elim (or_cases (p (b ∷ bs)) (list_any p (suffixes bs)) h) [
  | inl e ↦ (0, e)
  | inr e ↦ let r = suffix_from_any p bs e in (suc r.0, r.1)
]

-- and the converse
pub any_from_suffix : (p : List ℕ → Bool) (text : List ℕ) (n : ℕ) → p (drop n text) ≡ true → list_any p (suffixes text) ≡ true
unfolding suffixes
any_from_suffix p [] n h = or_left (p []) false (rw drop-nil at h)
any_from_suffix p (b ∷ bs) zero h = or_left (p (b ∷ bs)) (list_any p (suffixes bs)) h
any_from_suffix p (b ∷ bs) (suc n) h = or_right (p (b ∷ bs)) (list_any p (suffixes bs)) (any_from_suffix p bs n h)

pub equals_decided : (c : Comparator) (key value : List ℕ) → IsTrue (equals c key value) ↔ IsEqualUnder c key value
unfolding equals
equals_decided c key value = let d = bytes_eq-Decides (fold c key) (fold c value) in (d.0, d.1)

pub contains_to : (c : Comparator) (key value : List ℕ) → contains c key value ≡ true → Contains c key value
unfolding contains
contains_to c key value h =
    let r = suffix_from_any (λ rest. starts_with eqb rest (fold c key)) (fold c value) h in
    let e = (starts_is Decides-eqb (drop r.0 (fold c value)) (fold c key) (starts_with eqb (drop r.0 (fold c value)) (fold c key)) refl).0 r.1 in (
      take r.0 (fold c value),
      drop (length (fold c key)) (drop r.0 (fold c value)),
      sym (take-append-drop r.0 (fold c value)) ∙ ap (λ (t : List ℕ). take r.0 (fold c value) ++ t) e,
    )

pub contains_from : (c : Comparator) (key value : List ℕ) → Contains c key value → contains c key value ≡ true
unfolding contains
contains_from c key value h =
    let e : drop (length h.0) (fold c value) ≡ fold c key ++ h.1 = ap (λ (t : List ℕ). drop (length h.0) t) h.2
    ∙ drop-append_seam h.0 (fold c key ++ h.1) in
    any_from_suffix (λ rest. starts_with eqb rest (fold c key)) (fold c value) (length h.0)
    ((starts_is Decides-eqb (drop (length h.0) (fold c value)) (fold c key)
    (starts_with eqb (drop (length h.0) (fold c value)) (fold c key)) refl).1 h.1 e)

pub contains_decided : (c : Comparator) (key value : List ℕ) → IsTrue (contains c key value) ↔ Contains c key value
contains_decided c key value = (contains_to c key value, contains_from c key value)

pub covers_to : (c : Comparator) (items : List Item) (text : List ℕ) → covers c items text ≡ true → Matches c items text
unfolding covers
covers_to c [] [] h = tt
covers_to c [] (b ∷ bs) h = false≢true h
covers_to c (Octet o ∷ is) [] h = false≢true h
covers_to c (Octet o ∷ is) (b ∷ bs) h = let p = and_parts (eqb (fold_octet c o) (fold_octet c b)) (covers c is bs) h in
    (eqb-true (fold_octet c o) (fold_octet c b) p.0, covers_to c is bs p.1)
covers_to c (One ∷ is) [] h = false≢true h
covers_to c (One ∷ is) (b ∷ bs) h = covers_to c is bs h
covers_to c (Any ∷ is) text h = let r = suffix_from_any (covers c is) text h in (r.0, covers_to c is (drop r.0 text) r.1)

pub covers_from : (c : Comparator) (items : List Item) (text : List ℕ) → Matches c items text → covers c items text ≡ true
unfolding covers
covers_from c [] [] h = refl
covers_from c [] (b ∷ bs) h = absurd h
covers_from c (Octet o ∷ is) [] h = absurd h
covers_from c (Octet o ∷ is) (b ∷ bs) h =
    and_from (eqb (fold_octet c o) (fold_octet c b)) (covers c is bs) (eq-eqb (fold_octet c o) (fold_octet c b) h.0)
    (covers_from c is bs h.1)
covers_from c (One ∷ is) [] h = absurd h
covers_from c (One ∷ is) (b ∷ bs) h = covers_from c is bs h
covers_from c (Any ∷ is) text h = any_from_suffix (covers c is) text h.0 (covers_from c is (drop h.0 text) h.1)

pub covers_decided : (c : Comparator) (items : List Item) (text : List ℕ) → IsTrue (covers c items text) ↔ Matches c items text
covers_decided c items text = (covers_to c items text, covers_from c items text)
