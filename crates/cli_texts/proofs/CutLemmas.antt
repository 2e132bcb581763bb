-- Texts that are cut.
use Rattle.std.proofs.Common.{◌≡◌, ◌∙◌, sym, ap, refl, ℕ, ◌-◌, ◌<◌, ◌≤◌, suc, true, false, nat_le}
use Rattle.std.proofs.Common.{List, [], ◌∷◌, ◌++◌, length, take, drop, get_or, append_assoc, append-nil, arith, drop-cons, chars, IsUtf8}
use Rattle.std.proofs.lemmas.Bool.Decides.{nat_tests}
use Rattle.std.proofs.lemmas.List.{take-append-drop}
use Rattle.std.proofs.lemmas.Str.{encodes-append, encodes-chars}
use Rattle.std.specs.Char.{encode_utf8}
use Rattle.std.specs.Str.{encode_utf8_all}
use Rattle.cli_texts.specs.Cuts.{columns_of, fits_in, front_in, ellipsis, cut_text, cut_octets}

-- an item behind those that came before it
pub split_at : (all xs : List ℕ) (x : ℕ) → xs ≡ take (length xs) all → length xs < length all → x ≡ get_or all (length xs) x
    → all ≡ xs ++ x ∷ drop (suc (length xs)) all
split_at all xs x front within at =
    sym (take-append-drop (length xs) all)
    ∙ (ap (λ (ys : List ℕ). ys ++ drop (length xs) all) (sym front)
    ∙ ap (λ (ys : List ℕ). xs ++ ys) (drop-cons all (length xs) x within ∙ ap (λ (y : ℕ). y ∷ drop (suc (length xs)) all) (sym at)))

le_test : (a b : ℕ) → a ≤ b → nat_le a b ≡ true
le_test a b h = grind (arith, nat_tests)

lt_test : (a b : ℕ) → (a ≤ b → ⊥) → nat_le a b ≡ false
lt_test a b h = grind (arith, nat_tests)

-- a character that has room
fits_on : (left w x : ℕ) (rest : List ℕ) → w ≡ columns_of x → w ≤ left → fits_in left (x ∷ rest) ≡ fits_in (left - w) rest
fits_on left w x rest is le =
    let room : nat_le (columns_of x) left ≡ true = ap (λ (v : ℕ). nat_le v left) (sym is) ∙ le_test w left le in
    rw (room, is) refl

front_on : (left w x : ℕ) (rest : List ℕ) → w ≡ columns_of x → w ≤ left → front_in left (x ∷ rest) ≡ x ∷ front_in (left - w) rest
front_on left w x rest is le =
    let room : nat_le (columns_of x) left ≡ true = ap (λ (v : ℕ). nat_le v left) (sym is) ∙ le_test w left le in
    rw (room, is) refl

-- one that has none
fits_not : (left w x : ℕ) (rest : List ℕ) → w ≡ columns_of x → (w ≤ left → ⊥) → fits_in left (x ∷ rest) ≡ false
fits_not left w x rest is gt =
    let full : nat_le (columns_of x) left ≡ false = ap (λ (v : ℕ). nat_le v left) (sym is) ∙ lt_test w left gt in
    rw full refl

front_not : (left w x : ℕ) (rest : List ℕ) → w ≡ columns_of x → (w ≤ left → ⊥) → front_in left (x ∷ rest) ≡ []
front_not left w x rest is gt =
    let full : nat_le (columns_of x) left ≡ false = ap (λ (v : ℕ). nat_le v left) (sym is) ∙ lt_test w left gt in
    rw full refl

-- ---- after some characters

abbrev pub FitsSoFar : (most left : ℕ) → List ℕ → Type 0
FitsSoFar most left xs = (rest : List ℕ) → fits_in most (xs ++ rest) ≡ fits_in left rest

abbrev pub FrontSoFar : (most left : ℕ) → List ℕ → Type 0
FrontSoFar most left xs = (rest : List ℕ) → front_in most (xs ++ rest) ≡ xs ++ front_in left rest

pub fits_more : (most left next w x : ℕ) (xs : List ℕ) → w ≡ columns_of x → w ≤ left → next ≡ left - w
    → FitsSoFar most left xs → FitsSoFar most next (xs ++ x ∷ [])
fits_more most left next w x xs is le e h = λ rest.
    ap (fits_in most) (append_assoc xs (x ∷ []) rest)
    ∙ (h (x ∷ rest) ∙ (fits_on left w x rest is le ∙ ap (λ (n : ℕ). fits_in n rest) (sym e)))

pub front_more : (most left next w x : ℕ) (xs : List ℕ) → w ≡ columns_of x → w ≤ left → next ≡ left - w
    → FrontSoFar most left xs → FrontSoFar most next (xs ++ x ∷ [])
front_more most left next w x xs is le e h = λ rest.
    ap (front_in most) (append_assoc xs (x ∷ []) rest)
    ∙ (h (x ∷ rest)
    ∙ (ap (λ (ys : List ℕ). xs ++ ys) (front_on left w x rest is le ∙ ap (λ (n : ℕ). x ∷ front_in n rest) (sym e))
    ∙ sym (append_assoc xs (x ∷ []) (front_in next rest))))

pub fits_ends : (all xs : List ℕ) (most left w x : ℕ) → all ≡ xs ++ x ∷ drop (suc (length xs)) all → w ≡ columns_of x → (w ≤ left → ⊥)
    → FitsSoFar most left xs → false ≡ fits_in most all
fits_ends all xs most left w x split is gt h =
    let rest : List ℕ = drop (suc (length xs)) all in
    sym (ap (fits_in most) split ∙ (h (x ∷ rest) ∙ fits_not left w x rest is gt))

pub front_ends : (all xs : List ℕ) (most left w x : ℕ) → all ≡ xs ++ x ∷ drop (suc (length xs)) all → w ≡ columns_of x → (w ≤ left → ⊥)
    → FrontSoFar most left xs → xs ≡ front_in most all
front_ends all xs most left w x split is gt h =
    let rest : List ℕ = drop (suc (length xs)) all in
    sym (ap (front_in most) split
    ∙ (h (x ∷ rest) ∙ (ap (λ (ys : List ℕ). xs ++ ys) (front_not left w x rest is gt) ∙ append-nil xs)))

pub fits_all : (all xs : List ℕ) (most left : ℕ) → xs ≡ all → FitsSoFar most left xs → true ≡ fits_in most all
fits_all all xs most left is h = sym (ap (fits_in most) (sym is ∙ sym (append-nil xs)) ∙ h [])

pub front_all : (all xs : List ℕ) (most left : ℕ) → xs ≡ all → FrontSoFar most left xs → xs ≡ front_in most all
front_all all xs most left is h = sym (ap (front_in most) (sym is ∙ sym (append-nil xs)) ∙ (h [] ∙ append-nil xs))

-- a character more at the end
pub pushed_next : (old new : List ℕ) (xs : List ℕ) (x : ℕ) → old ≡ encode_utf8_all xs → new ≡ old ++ encode_utf8 x
    → new ≡ encode_utf8_all (xs ++ x ∷ [])
pushed_next old new xs x is more =
    more ∙ (ap (λ (bs : List ℕ). bs ++ encode_utf8 x) is
    ∙ (ap (λ (bs : List ℕ). encode_utf8_all xs ++ bs) (sym (append-nil (encode_utf8 x))) ∙ sym (encodes-append xs (x ∷ []))))

-- ---- the whole text, or its front

pub whole_cut : (text bytes : List ℕ) → fits_in 80 (chars text) ≡ true → IsUtf8 text → bytes ≡ text → bytes ≡ cut_octets text
whole_cut text bytes fits utf8 is = is ∙ (sym (encodes-chars text utf8) ∙ ap encode_utf8_all (whole (chars text) fits))
  where
    whole : (cs : List ℕ) → fits_in 80 cs ≡ true → cs ≡ cut_text cs
    whole cs h = rw h refl

pub front_cut : (cs : List ℕ) → fits_in 80 cs ≡ false → front_in 79 cs ++ ellipsis ∷ [] ≡ cut_text cs
front_cut cs h = rw h refl
