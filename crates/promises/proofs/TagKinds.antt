-- Tags of one kind: how many there are among the arguments of a form.
use Rattle.std.proofs.Common.{◌≡◌, ℕ, ◌+◌, ◌≤◌, Bool, true, false, List, [], ◌∷◌, refl, sym, ap, ◌∙◌, arith}
use Rattle.std.specs.Prelude.{All, count_by, if◌then◌else◌}
use Rattle.std.specs.List.{list_any}
use Rattle.std.proofs.lemmas.Bool.{or_parts}
use Rattle.std.proofs.lemmas.List.Elements.{All-nil, All-cons}
use Rattle.std.proofs.lemmas.List.Sums.{sum_by-cons}
use Rattle.sieve_syntax.specs.declared.tree.Argument.{Argument}
use Rattle.sieve_check.specs.declared.table.TagKind.{TagKind}
use Rattle.sieve_check.specs.Tables.{TagWord, WordForm}
use Rattle.sieve_check.specs.Pieces.{PieceWord, pieces}
use Rattle.sieve_check.specs.Rules.{has_kind, same_kind, stands_twice, has_tag_twice}
use Rattle.sieve_meaning.specs.Words.{same_word}
use Rattle.promises.specs.ReadingLaw.{is_named}

-- these are the names of the tags of this kind in the table
abbrev pub AreOfKind : List (List ℕ) → TagKind → List TagWord → Type 0
AreOfKind names k [] = Unit {0}
AreOfKind names k (w ∷ ws) = (list_any (same_word w.name) names ≡ same_kind k w.kind) × AreOfKind names k ws

-- these are the names of the tags of some kind, no two of which the checker accepts
pub record IsKind (form : WordForm) (names : List (List ℕ)) : Type 0 where
  pub kind : TagKind
  pub names_are : AreOfKind names kind form.tags
  pub once : (ps : List PieceWord) → has_tag_twice form ps ≡ false → stands_twice kind ps ≡ false

abbrev pub AreKinds : WordForm → List (List (List ℕ)) → Type 0
AreKinds form [] = Unit {0}
AreKinds form (names ∷ more) = IsKind form names × AreKinds form more

-- no tag of the table has a second one of its kind
abbrev pub AreOnce : List PieceWord → List TagWord → Type 0
AreOnce ps [] = Unit {0}
AreOnce ps (w ∷ ws) = (stands_twice w.kind ps ≡ false) × AreOnce ps ws

pub are_once : (ps : List PieceWord) (ws : List TagWord) → list_any (λ w. stands_twice w.kind ps) ws ≡ false → AreOnce ps ws
are_once ps [] h = tt
are_once ps (w ∷ ws) h =
    let parts = or_parts (stands_twice w.kind ps) (list_any (λ (v : TagWord). stands_twice v.kind ps) ws) h in
    (parts.0, are_once ps ws parts.1)

-- how many there are where one comes first
counted_first : {X : Type 0} (p : X → Bool) (x : X) (xs : List X) → count_by p (x ∷ xs) ≡ (if p x then 1 else 0) + count_by p xs
counted_first p x xs = sum_by-cons (λ y. if p y then 1 else 0) x xs

pub one_more : {X Y : Type 0} (p : X → Bool) (q : Y → Bool) (x : X) (y : Y) (xs : List X) (ys : List Y) → p x ≡ q y
    → count_by p xs ≡ count_by q ys → count_by p (x ∷ xs) ≡ count_by q (y ∷ ys)
one_more p q x y xs ys e h =
    counted_first p x xs ∙ ap (λ (b : Bool). (if b then 1 else 0) + count_by p xs) e
    ∙ ap (λ (n : ℕ). (if q y then 1 else 0) + n) h ∙ sym (counted_first q y ys)

pub one_passed : {X : Type 0} (p : X → Bool) (x : X) (xs : List X) → p x ≡ false → count_by p (x ∷ xs) ≡ count_by p xs
one_passed p x xs e =
    let first : count_by p (x ∷ xs) ≡ 0 + count_by p xs = counted_first p x xs ∙ ap (λ (b : Bool). (if b then 1 else 0) + count_by p xs) e in
    omega (arith, first)

none_of_kind : (k : TagKind) (ps : List PieceWord) → list_any (has_kind k) ps ≡ false → count_by (has_kind k) ps ≡ 0
none_of_kind k [] h = refl
none_of_kind k (p ∷ ps) h =
    let parts = or_parts (has_kind k p) (list_any (has_kind k) ps) h in
    one_passed (has_kind k) p ps parts.0 ∙ none_of_kind k ps parts.1

one_of_kind : (k : TagKind) (ps : List PieceWord) → stands_twice k ps ≡ false → count_by (has_kind k) ps ≤ 1
one_of_kind k [] h = let none : count_by (has_kind k) [] ≡ 0 = refl in omega (arith, none)
one_of_kind k (p ∷ ps) h = go (has_kind k p) refl h (λ (rest : stands_twice k ps ≡ false). one_of_kind k ps rest)
  where
    go : (b : Bool) → has_kind k p ≡ b → (if b then list_any (has_kind k) ps else stands_twice k ps) ≡ false
        → (stands_twice k ps ≡ false → count_by (has_kind k) ps ≤ 1) → count_by (has_kind k) (p ∷ ps) ≤ 1
    go true e h rest =
        let first : count_by (has_kind k) (p ∷ ps) ≡ 1 + count_by (has_kind k) ps = counted_first (has_kind k) p ps
        ∙ ap (λ (b : Bool). (if b then 1 else 0) + count_by (has_kind k) ps) e in
        let none = none_of_kind k ps h in
        omega (arith, first, none)
    go false e h rest =
        let first = one_passed (has_kind k) p ps e in
        let one = rest h in
        omega (arith, first, one)

-- at most one tag of each kind is among the arguments
pub each_once : (form : WordForm) (args : List Argument) (tags : List (List (List ℕ))) → AreKinds form tags
    → has_tag_twice form (pieces form.tags args) ≡ false
    → ((names : List (List ℕ)) (k : TagKind) → AreOfKind names k form.tags
    → count_by (is_named names) args ≡ count_by (has_kind k) (pieces form.tags args))
    → All (λ names. count_by (is_named names) args ≤ 1) tags
each_once form args [] are once counted = All-nil (λ (names : List (List ℕ)). count_by (is_named names) args ≤ 1)
each_once form args (names ∷ more) are once counted =
    let same = counted names are.0.kind are.0.names_are in
    let one = one_of_kind are.0.kind (pieces form.tags args) (are.0.once (pieces form.tags args) once) in
    All-cons (λ (names : List (List ℕ)). count_by (is_named names) args ≤ 1) names more (omega (arith, same, one))
    (each_once form args more are.1 once counted)
