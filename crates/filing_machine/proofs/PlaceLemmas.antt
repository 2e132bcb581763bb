-- Lists of places, in two parts, and their fields.
use Rattle.std.proofs.Common.{◌≡◌, ℕ, ◌+◌, ◌-◌, ◌<◌, ◌≤◌, true, false, cond, List, [], ◌∷◌, ◌++◌, length, get_or, take}
use Rattle.std.proofs.Common.{map, sym, ap, subst, ◌∙◌, append_assoc}
use Rattle.std.proofs.lemmas.List.Elements.{All-push, All-append, filter_more}
use Rattle.std.specs.List.{All, AllByRecursion, filter}
use Rattle.sieve_meaning.specs.Case.{Facts, is_named}
use Rattle.mail_case.specs.Fields.{field_at}
use Rattle.filing_machine.specs.declared.state.Item.{Item}
use Rattle.filing_machine.specs.declared.state.Item.TheVariants.{Fields}
use Rattle.filing_machine.specs.StateViews.{InCase}
use Rattle.std.proofs.lemmas.List.{append-nil, map-append, get_or-append_right, get_or_append_left, nil_from_length}

-- a place added to either part
pub pushed_narrow : (old xs ys new : List ℕ) (p : ℕ) → xs ++ ys ≡ old → length ys ≡ 0 → new ≡ xs ++ p ∷ [] → new ++ ys ≡ old ++ p ∷ []
pushed_narrow old xs ys new p view none e =
    let nil : ys ≡ [] = nil_from_length ys none in
    ap (λ zs. new ++ zs) nil ∙ append-nil new ∙ e ∙ ap (λ zs. zs ++ p ∷ []) (sym (append-nil xs) ∙ ap (λ zs. xs ++ zs) (sym nil) ∙ view)

pub pushed_wide : (old xs ys new : List ℕ) (p : ℕ) → xs ++ ys ≡ old → new ≡ ys ++ p ∷ [] → xs ++ new ≡ old ++ p ∷ []
pushed_wide old xs ys new p view e = ap (λ zs. xs ++ zs) e ∙ sym (append_assoc xs ys (p ∷ [])) ∙ ap (λ zs. zs ++ p ∷ []) view

-- another list added, in both parts or in the second alone
pub joined_narrow : (old xs ys more us vs xs' ys' : List ℕ) → xs ++ ys ≡ old → length ys ≡ 0 → us ++ vs ≡ more
    → xs' ≡ xs ++ us → ys' ≡ ys ++ vs → xs' ++ ys' ≡ old ++ more
joined_narrow old xs ys more us vs xs' ys' view none other ex ey =
    let nil : ys ≡ [] = nil_from_length ys none in
    let all : old ≡ xs = sym view ∙ ap (λ zs. xs ++ zs) nil ∙ append-nil xs in
    rw (ex, ey, nil, all, ← other) (append_assoc xs us vs)

pub joined_wide : (old xs ys more us vs ys' : List ℕ) → xs ++ ys ≡ old → us ++ vs ≡ more → ys' ≡ ys ++ (us ++ vs) → xs ++ ys' ≡ old ++ more
joined_wide old xs ys more us vs ys' view other ey = rw (ey, ← other, ← view) (sym (append_assoc xs ys (us ++ vs)))

-- a place of the whole
pub at_narrow : (all xs ys : List ℕ) (i : ℕ) → xs ++ ys ≡ all → i < length xs → get_or xs i 0 ≡ get_or all i 0
at_narrow all xs ys i view lt = sym (ap (λ zs. get_or zs i 0) (sym view) ∙ get_or_append_left xs ys 0 i lt)

pub at_wide : (all xs ys : List ℕ) (i n : ℕ) → xs ++ ys ≡ all → length xs ≡ n → n ≤ i → get_or ys (i - n) 0 ≡ get_or all i 0
at_wide all xs ys i n view long le = sym (ap (λ zs. get_or zs i 0) (sym view) ∙ get_or-append_right xs ys n i 0 long le)

-- the places of the first i fields that have a name
pub record AreNamed (c : Facts) (name places : List ℕ) (i : ℕ) : Type 0 where
  pub values : map (λ place. (field_at c place).value) places ≡ map (λ f. f.value) (filter (is_named name) (take i c.fields))
  pub in_case : All (λ place. place < length c.fields) places

pub AreNamed-more : (c : Facts) (name places new : List ℕ) (i : ℕ) → AreNamed c name places i → i < length c.fields
    → is_named name (field_at c i) ≡ true → new ≡ places ++ i ∷ [] → AreNamed c name new (i + 1)
AreNamed-more c name places new i h lt named e =
    let kept : filter (is_named name) (take (i + 1) c.fields) ≡ filter (is_named name) (take i c.fields)
    ++ field_at c i ∷ [] = filter_more (is_named name) c.fields i (record { name = []; value = [] }) lt
    ∙ ap (λ t. filter (is_named name) (take i c.fields) ++ cond t (field_at c i ∷ []) []) named in
    record {
      values = ap (map (λ place. (field_at c place).value)) e
          ∙ map-append (λ place. (field_at c place).value) places (i ∷ [])
          ∙ ap (λ vs. vs ++ (field_at c i).value ∷ []) h.values
          ∙ sym (map-append (λ f. f.value) (filter (is_named name) (take i c.fields)) (field_at c i ∷ []))
          ∙ ap (map (λ f. f.value)) (sym kept);
      in_case = rw e (All-push (λ place. place < length c.fields) places i h.in_case lt);
    }

pub AreNamed-same : (c : Facts) (name places : List ℕ) (i : ℕ) → AreNamed c name places i → i < length c.fields
    → is_named name (field_at c i) ≡ false → AreNamed c name places (i + 1)
AreNamed-same c name places i h lt other =
    let kept : filter (is_named name) (take (i + 1) c.fields) ≡ filter (is_named name) (take i c.fields) =
    filter_more (is_named name) c.fields i (record { name = []; value = [] }) lt
    ∙ ap (λ t. filter (is_named name) (take i c.fields) ++ cond t (field_at c i ∷ []) []) other
    ∙ append-nil (filter (is_named name) (take i c.fields)) in
    record { values = h.values ∙ ap (map (λ f. f.value)) (sym kept); in_case = h.in_case }

-- two lists on the top of a stack, replaced by one
pub in_case-joined : (c : Facts) (stack following rest new : List Item) (first second both : List ℕ)
    → stack ≡ Fields second ∷ following → following ≡ Fields first ∷ rest → AllByRecursion (InCase c) stack
    → both ≡ first ++ second → new ≡ Fields both ∷ rest → AllByRecursion (InCase c) new
in_case-joined c stack following rest new first second both es eb h e en =
    let all : AllByRecursion (InCase c) (Fields second ∷ Fields first ∷ rest) =
    subst (λ (xs : List Item). AllByRecursion (InCase c) xs) (es ∙ ap (λ xs. Fields second ∷ xs) eb) h in
    subst (λ (xs : List Item). AllByRecursion (InCase c) xs) (sym en) (
      subst (λ (xs : List ℕ).
          All (λ place. place < length c.fields) xs) (sym e) (All-append (λ place.
          place < length c.fields) first second all.1.0 all.0),
      all.1.1,
    )
