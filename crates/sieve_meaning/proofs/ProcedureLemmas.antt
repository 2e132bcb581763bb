-- Each include of a procedure that enters a script has its procedure among those after the include's own.
use Rattle.std.proofs.Common.{◌≡◌, ◌≤◌, ◌⊎◌, ℕ, zero, suc, List, [], ◌∷◌, ◌++◌, map, filter, flat_map, filter_map, Bool, true, false, not, ◌&&◌, ◌||◌}
use Rattle.std.proofs.Common.{cond, Option, Some, None, inl, inr, refl, sym, ap, ◌∙◌, subst, arith}
use Rattle.std.specs.Prelude.{nat_eq}
use Rattle.std.specs.List.{list_any, cons_option}
use Rattle.std.proofs.lemmas.Bool.{and_from, or_right, or_left, eq-eqb, false_from_ne_true, not-false}
use Rattle.std.proofs.lemmas.Option.{same_Some}
use Rattle.sieve_meaning.specs.Program.{Include, Commands}
use Rattle.sieve_meaning.specs.Meaning.{ScriptName, script_named, same_script, is_among, Library}
use Rattle.sieve_meaning.specs.Procedures.{includes_of, once, included_names, reaches, Procedure, same_first, are_among}
use Rattle.sieve_meaning.specs.Procedures.{is_shared, entered_if, entry, called_by, led_to, main_procedure, procedures}
use Rattle.sieve_meaning.proofs.SharingLemmas.{IsIn, same_is, same_self, or_else, kept_step, among_those, shared_tests}

-- LISTS

abbrev pub IsElement : {A : Type 0} → A → List A → Type 0
IsElement x [] = ⊥
IsElement x (y ∷ ys) = (x ≡ y) ⊎ IsElement x ys

abbrev pub AllOf : {A : Type 0} → (A → Type 0) → List A → Type 0
AllOf P [] = Unit {0}
AllOf P (x ∷ xs) = P x × AllOf P xs

pub all_element : {A : Type 0} (P : A → Type 0) (x : A) (xs : List A) → AllOf P xs → IsElement x xs → P x
all_element P x [] h there = absurd there
all_element P x (y ∷ ys) h (inl e) = subst P (sym e) h.0
all_element P x (y ∷ ys) h (inr there) = all_element P x ys h.1 there

pub all_mapped : {A : Type 0} (P Q : A → Type 0) (xs : List A) → ((x : A) → P x → Q x) → AllOf P xs → AllOf Q xs
all_mapped P Q [] f h = tt
all_mapped P Q (x ∷ xs) f h = (f x h.0, all_mapped P Q xs f h.1)

pub all_append : {A : Type 0} (P : A → Type 0) (xs ys : List A) → AllOf P xs → AllOf P ys → AllOf P (xs ++ ys)
all_append P [] ys h k = k
all_append P (x ∷ xs) ys h k = (h.0, all_append P xs ys h.1 k)

all_cond : {A : Type 0} (P : A → Type 0) (b : Bool) (x : A) (xs : List A) → P x → AllOf P xs → AllOf P (cond b (x ∷ xs) xs)
all_cond P true x xs p h = (p, h)
all_cond P false x xs p h = h

pub all_filter : {A : Type 0} (P : A → Type 0) (q : A → Bool) (xs : List A) → AllOf P xs → AllOf P (filter q xs)
all_filter P q [] h = tt
all_filter P q (x ∷ xs) h = all_cond P (q x) x (filter q xs) h.0 (all_filter P q xs h.1)

pub all_once : {A : Type 0} (alike : A → A → Bool) (P : A → Type 0) (xs : List A) → AllOf P xs → AllOf P (once alike xs)
all_once alike P [] h = tt
all_once alike P (x ∷ xs) h = (h.0, all_filter P (λ y. not (alike x y)) (once alike xs) (all_once alike P xs h.1))

in_first : {A : Type 0} (x : A) (xs ys : List A) → IsElement x xs → IsElement x (xs ++ ys)
in_first x [] ys there = absurd there
in_first x (y ∷ xs) ys (inl e) = inl e
in_first x (y ∷ xs) ys (inr there) = inr (in_first x xs ys there)

in_second : {A : Type 0} (x : A) (xs ys : List A) → IsElement x ys → IsElement x (xs ++ ys)
in_second x [] ys there = there
in_second x (y ∷ xs) ys there = inr (in_second x xs ys there)

in_flat_map : {A B : Type 0} (f : A → List B) (y : B) (x : A) (xs : List A) → IsElement x xs → IsElement y (f x) → IsElement y (flat_map f xs)
in_flat_map f y x [] there at = absurd there
in_flat_map f y x (z ∷ xs) (inl e) at = in_first y (f z) (flat_map f xs) (subst (λ w. IsElement y (f w)) e at)
in_flat_map f y x (z ∷ xs) (inr there) at = in_second y (f z) (flat_map f xs) (in_flat_map f y x xs there at)

all_flat_map : {A B : Type 0} (P : B → Type 0) (f : A → List B) (xs : List A) → ((x : A) → AllOf P (f x)) → AllOf P (flat_map f xs)
all_flat_map P f [] h = tt
all_flat_map P f (x ∷ xs) h = all_append P (f x) (flat_map f xs) (h x) (all_flat_map P f xs h)

in_option : {A : Type 0} (o : Option A) (y : A) (ys : List A) → IsElement y ys → IsElement y (cons_option o ys)
in_option None y ys there = there
in_option (Some x) y ys there = inr there

all_option : {A : Type 0} (P : A → Type 0) (o : Option A) (ys : List A) → ((y : A) → o ≡ Some y → P y) → AllOf P ys → AllOf P (cons_option o ys)
all_option P None ys h k = k
all_option P (Some x) ys h k = (h x refl, k)

in_filter_map : {A B : Type 0} (f : A → Option B) (y : B) (x : A) (xs : List A) → IsElement x xs → f x ≡ Some y → IsElement y (filter_map f xs)
in_filter_map f y x [] there at = absurd there
in_filter_map f y x (z ∷ xs) (inl e) at = subst (λ o. IsElement y (cons_option o (filter_map f xs))) (sym at ∙ ap f e) (inl refl)
in_filter_map f y x (z ∷ xs) (inr there) at = in_option (f z) y (filter_map f xs) (in_filter_map f y x xs there at)

pub all_filter_map : {A B : Type 0} (P : B → Type 0) (f : A → Option B) (xs : List A)
    → ((x : A) (y : B) → f x ≡ Some y → P y) → AllOf P (filter_map f xs)
all_filter_map P f [] h = tt
all_filter_map P f (x ∷ xs) h = all_option P (f x) (filter_map f xs) (h x) (all_filter_map P f xs h)

pub any_first : {A : Type 0} (t : A → Bool) (xs ys : List A) → list_any t xs ≡ true → list_any t (xs ++ ys) ≡ true
any_first t [] ys h = absurd (cc h)
any_first t (x ∷ xs) ys h = or_else (t x) (list_any t xs) (list_any t (xs ++ ys)) h (λ other k. any_first t xs ys k)

pub any_second : {A : Type 0} (t : A → Bool) (xs ys : List A) → list_any t ys ≡ true → list_any t (xs ++ ys) ≡ true
any_second t [] ys h = h
any_second t (x ∷ xs) ys h = or_right (t x) (list_any t (xs ++ ys)) (any_second t xs ys h)

-- THE FIRST OF THOSE THAT ARE ALIKE

module _ {A : Type 0} (alike : A → A → Bool) (P : A → Type 0) (self : (x : A) → P x
    → alike x x ≡ true) (along : (x y z : A) → P x → P y → P z → alike x y ≡ true → alike y z ≡ true
    → alike x z ≡ true) where
  kept_like : (x e : A) (ys : List A) → P x → P e → AllOf P ys → alike x e ≡ false → list_any (λ y. alike y e) ys ≡ true
      → list_any (λ y. alike y e) (filter (λ y. not (alike x y)) ys) ≡ true
  kept_like x e [] px pe all other h = h
  kept_like x e (y ∷ ys) px pe all other h =
      kept_step (λ z. alike z e) y ys (filter (λ z. not (alike x z)) ys) (not (alike x y))
      (λ dropped. false_from_ne_true (alike y e) (λ like. absurd (cc (along x y e px all.0 pe (not-false (alike x y) dropped) like, other))))
      (kept_like x e ys px pe all.1 other) h

  once_covers : (xs : List A) → AllOf P xs → (e : A) → IsElement e xs → list_any (λ y. alike y e) (once alike xs) ≡ true
  once_covers [] all e there = absurd there
  once_covers (x ∷ xs) all e (inl is) =
      or_left (alike x e) (list_any (λ y. alike y e) (filter (λ y. not (alike x y)) (once alike xs))) (subst (λ z.
      alike x z ≡ true) (sym is) (self x all.0))
  once_covers (x ∷ xs) all e (inr there) = by (alike x e) refl (once_covers xs all.1 e there)
    where
      by : (b : Bool) → alike x e ≡ b → list_any (λ y. alike y e) (once alike xs) ≡ true
          → (alike x e || list_any (λ y. alike y e) (filter (λ y. not (alike x y)) (once alike xs))) ≡ true
      by true is h = or_left (alike x e) (list_any (λ y. alike y e) (filter (λ y. not (alike x y)) (once alike xs))) is
      by false is h =
          or_right (alike x e) (list_any (λ y. alike y e) (filter (λ y. not (alike x y)) (once alike xs)))
          (kept_like x e (once alike xs) all.0 (all_element P e xs all.1 there) (all_once alike P xs all.1) is h)

-- NAMES

in_filter : {A : Type 0} (q : A → Bool) (x : A) (xs : List A) → IsElement x xs → q x ≡ true → IsElement x (filter q xs)
in_filter q x [] there h = absurd there
in_filter q x (y ∷ ys) (inl e) h = subst (λ b. IsElement x (cond b (y ∷ filter q ys) (filter q ys))) (sym h ∙ ap q e) (inl e)
in_filter q x (y ∷ ys) (inr there) h = in_cond (q y) x y (filter q ys) (in_filter q x ys there h)
  where
    in_cond : {A : Type 0} (b : Bool) (x y : A) (ys : List A) → IsElement x ys → IsElement x (cond b (y ∷ ys) ys)
    in_cond true x y ys there = inr there
    in_cond false x y ys there = there

in_once : (s : ScriptName) (names : List ScriptName) → IsElement s names → IsElement s (once same_script names)
in_once s [] there = absurd there
in_once s (t ∷ ts) (inl e) = inl e
in_once s (t ∷ ts) (inr there) = by (same_script t s) refl (in_once s ts there)
  where
    by : (b : Bool) → same_script t s ≡ b → IsElement s (once same_script ts)
        → IsElement s (t ∷ filter (λ u. not (same_script t u)) (once same_script ts))
    by true is h = inl (sym (same_is t s is))
    by false is h = inr (in_filter (λ u. not (same_script t u)) s (once same_script ts) h (ap not is))

in_names : (i : Include) (is : List Include) → IsIn i is → IsElement (script_named i) (map script_named is)
in_names i [] there = absurd there
in_names i (j ∷ is) (inl e) = inl (ap (λ (n : Include). script_named n) e)
in_names i (j ∷ is) (inr there) = inr (in_names i is there)

-- the script of an include is among those that are named
pub named_once : (x : Commands) (i : Include) → IsIn i (includes_of x) → IsElement (script_named i) (included_names x)
named_once x i there = in_once (script_named i) (map script_named (includes_of x)) (in_names i (includes_of x) there)

-- PROCEDURES THAT INCLUDES ENTER

pub record IsEntered (lib : Library) (left : ℕ) (p : Procedure) : Type 0 where
  pub name : ScriptName
  pub before : List ScriptName
  pub chain : p.chain ≡ name ∷ before
  pub there : lib.find name ≡ Some p.script
  pub left_is : p.left ≡ left

suc_is : (m n : ℕ) → suc m ≡ suc n → m ≡ n
suc_is m n e = omega (arith, e)

pub implied : (a b : Bool) → (a ≡ true → b ≡ true) → (not a || b) ≡ true
implied true b h = h refl
implied false b h = refl

module _ (lib : Library) where
  pub are_among_from : (x : Commands) (these others : List ScriptName)
      → ((s : ScriptName) → is_among these s ≡ true → reaches lib x s ≡ true → is_among others s ≡ true)
      → are_among lib x these others ≡ true
  are_among_from x [] others h = refl
  are_among_from x (u ∷ us) others h =
      and_from (not (reaches lib x u) || is_among others u) (are_among lib x us others)
      (implied (reaches lib x u) (is_among others u) (λ r. h u (or_left (same_script u u) (is_among us u) (same_self u)) r))
      (are_among_from x us others (λ s there r. h s (or_right (same_script s u) (is_among us s) there) r))

  pub shared_from : (p q : Procedure) → same_first p.chain q.chain ≡ true → p.left ≡ q.left
      → are_among lib p.script p.chain q.chain ≡ true → are_among lib p.script q.chain p.chain ≡ true
      → is_shared lib p q ≡ true
  shared_from p q first as_many here there =
      and_from (same_first p.chain q.chain && nat_eq p.left q.left && are_among lib p.script p.chain q.chain) (are_among lib p.script q.chain p.chain)
      (and_from (same_first p.chain q.chain && nat_eq p.left q.left) (are_among lib p.script p.chain q.chain)
      (and_from (same_first p.chain q.chain) (nat_eq p.left q.left) first (eq-eqb p.left q.left as_many)) here) there

  pub first_is : (a b : List ScriptName) (s t : ScriptName) (ss ts : List ScriptName) → a ≡ s ∷ ss → b ≡ t ∷ ts → same_first a b ≡ true → s ≡ t
  first_is a b s t ss ts ea eb h =
      let first : same_first (s ∷ ss) (t ∷ ts) ≡ true =
      subst (λ (c : List ScriptName). same_first c (t ∷ ts) ≡ true) ea (subst (λ (c : List ScriptName).
      same_first a c ≡ true) eb h) in
      same_is s t first

  pub first_from : (a b : List ScriptName) (s t : ScriptName) (ss ts : List ScriptName) → a ≡ s ∷ ss → b ≡ t ∷ ts → s ≡ t → same_first a b ≡ true
  first_from a b s t ss ts ea eb e =
      let first : same_first (s ∷ ss) (t ∷ ts) ≡ true = subst (λ (u : ScriptName). same_script s u ≡ true) e (same_self s) in
      subst (λ (c : List ScriptName). same_first c b ≡ true) (sym ea) (subst (λ (c : List ScriptName). same_first (s ∷ ss) c ≡ true) (sym eb) first)

  module _ (left : ℕ) where
    pub shared_self : (p : Procedure) → IsEntered lib left p → is_shared lib p p ≡ true
    shared_self p h =
        let all = are_among_from p.script p.chain p.chain (λ s there r. there) in
        shared_from p p (first_from p.chain p.chain h.name h.name h.before h.before h.chain h.chain refl) refl all all

    pub same_scripts : (p q : Procedure) → IsEntered lib left p → IsEntered lib left q → is_shared lib p q ≡ true
        → (p.script ≡ q.script) × ((h : IsEntered lib left p) → (k : IsEntered lib left q) → h.name ≡ k.name)
    same_scripts p q h k shared =
        let t = shared_tests lib p q shared in
        let names : (h : IsEntered lib left p) → (k : IsEntered lib left q) → h.name ≡ k.name = λ h k.
        first_is p.chain q.chain h.name k.name h.before k.before h.chain k.chain t.0 in
        (same_Some p.script q.script (sym h.there ∙ ap (λ (s : ScriptName). lib.find s) (names h k) ∙ k.there), names)

    pub shared_along : (x y z : Procedure) → IsEntered lib left x → IsEntered lib left y → IsEntered lib left z
        → is_shared lib x y ≡ true → is_shared lib y z ≡ true → is_shared lib x z ≡ true
    shared_along x y z hx hy hz xy yz =
        let tx = shared_tests lib x y xy in
        let ty = shared_tests lib y z yz in
        let sx = same_scripts x y hx hy xy in
        let sy = same_scripts y z hy hz yz in
        let back : (s : ScriptName) → reaches lib x.script s ≡ true → reaches lib y.script s ≡ true = λ s r.
        subst (λ (c : Commands). reaches lib c s ≡ true) sx.0 r in
        shared_from x z
        (first_from x.chain z.chain hx.name hz.name hx.before hz.before hx.chain hz.chain (sx.1 hx hy ∙ sy.1 hy hz))
        (hx.left_is ∙ sym hz.left_is)
        (are_among_from x.script x.chain z.chain (λ s there r.
        among_those lib y.script y.chain z.chain s ty.2 (back s r)
        (among_those lib x.script x.chain y.chain s tx.2 r there)))
        (are_among_from x.script z.chain x.chain (λ s there r.
        among_those lib x.script y.chain x.chain s tx.3 r
        (among_those lib y.script z.chain y.chain s ty.3 (back s r) there)))

    pub entered_is : (chain : List ScriptName) (s : ScriptName) (e : Procedure) → entry lib left chain s ≡ Some e → IsEntered lib left e
    entered_is chain s e h = go (lib.find s) refl (is_among chain s) h
      where
        go : (o : Option Commands) → lib.find s ≡ o → (active : Bool) → entered_if o active left (s ∷ chain) ≡ Some e → IsEntered lib left e
        go None at active k = absurd (cc k)
        go (Some x) at true k = absurd (cc k)
        go (Some x) at false k =
            let made : Procedure = record { script = x; left = left; chain = s ∷ chain } in
            subst (IsEntered lib left) (same_Some made e k) (record { name = s; before = chain; chain = refl; there = at; left_is = refl })

    abbrev pub all_entered : List Procedure → List Procedure
    all_entered ps = flat_map (λ p. filter_map (entry lib left p.chain) (included_names p.script)) ps

    pub are_entered : (ps : List Procedure) → AllOf (IsEntered lib left) (all_entered ps)
    are_entered ps =
        all_flat_map (IsEntered lib left) (λ p. filter_map (entry lib left p.chain) (included_names p.script)) ps
        (λ p. all_filter_map (IsEntered lib left) (entry lib left p.chain) (included_names p.script) (λ s e h. entered_is p.chain s e h))

    called_found : (ps : List Procedure) (p : Procedure) → IsElement p ps → (s : ScriptName) (e : Procedure)
        → IsElement s (included_names p.script) → entry lib left p.chain s ≡ Some e
        → list_any (λ q. is_shared lib q e) (called_by lib left ps) ≡ true
    called_found ps p there s e named h =
        once_covers (is_shared lib) (IsEntered lib left) shared_self shared_along (all_entered ps) (are_entered ps) e
        (in_flat_map (λ p. filter_map (entry lib left p.chain) (included_names p.script)) e p ps there
        (in_filter_map (entry lib left p.chain) e s (included_names p.script) named h))

    pub called_left : (ps : List Procedure) → AllOf (λ p. p.left ≡ left) (called_by lib left ps)
    called_left ps = all_mapped (IsEntered lib left) (λ p. p.left ≡ left) (called_by lib left ps) (λ p h.
        h.left_is) (all_once (is_shared lib) (IsEntered lib left) (all_entered ps) (are_entered ps))

  -- an include that shares a procedure enters its script
  pub shared_script : (q e : Procedure) (left : ℕ) → IsEntered lib left q → (s : ScriptName) (before : List ScriptName)
      → e.chain ≡ s ∷ before → lib.find s ≡ Some e.script → is_shared lib q e ≡ true → q.script ≡ e.script
  shared_script q e left h s before chain at shared =
      let t = shared_tests lib q e shared in
      same_Some q.script e.script (sym h.there
      ∙ ap (λ (u : ScriptName). lib.find u) (first_is q.chain e.chain h.name s h.before before h.chain chain t.0)
      ∙ at)

  -- what an include of the procedure enters is among these
  abbrev pub FindsCalls : Procedure → List Procedure → Type 0
  FindsCalls p later = (left : ℕ) → p.left ≡ suc left → (s : ScriptName) (e : Procedure)
      → IsElement s (included_names p.script) → entry lib left p.chain s ≡ Some e
      → list_any (λ q. is_shared lib q e) later ≡ true

  -- what includes enter comes after them
  abbrev pub AllFind : List Procedure → Type 0
  AllFind [] = Unit {0}
  AllFind (p ∷ later) = FindsCalls p later × AllFind later

  none_find : (ps : List Procedure) → AllOf (λ p. p.left ≡ zero) ps → AllFind ps
  none_find [] h = tt
  none_find (p ∷ ps) h = (λ left is s e named at. absurd (cc (h.0, is)), none_find ps h.1)

  level_finds : (ps rest : List Procedure) → AllOf (λ p. FindsCalls p rest) ps → AllFind rest → AllFind (ps ++ rest)
  level_finds [] rest h k = k
  level_finds (p ∷ ps) rest h k = (
    λ left is s e named at. any_second (λ q. is_shared lib q e) ps rest (h.0 left is s e named at),
    level_finds ps rest h.1 k,
  )

  pub led_any : (t : Procedure → Bool) (left : ℕ) (ps : List Procedure) → list_any t ps ≡ true → list_any t (led_to lib left ps) ≡ true
  led_any t zero ps h = h
  led_any t (suc left) ps h = any_first t ps (led_to lib left (called_by lib left ps)) h

  each_finds : (left : ℕ) (all ps : List Procedure) → ((p : Procedure) → IsElement p ps → IsElement p all)
      → AllOf (λ p. p.left ≡ suc left) ps → AllOf (λ p. FindsCalls p (led_to lib left (called_by lib left all))) ps
  each_finds left all [] inside h = tt
  each_finds left all (p ∷ ps) inside h = (
    λ n is s e named at.
        let same : n ≡ left = suc_is n left (sym is ∙ h.0) in
        let here : entry lib left p.chain s ≡ Some e = subst (λ (k : ℕ). entry lib k p.chain s ≡ Some e) same at in
        led_any (λ q. is_shared lib q e) left (called_by lib left all) (called_found left all p (inside p (inl refl)) s e named here),
    each_finds left all ps (λ q there. inside q (inr there)) h.1,
  )

  pub led_finds : (left : ℕ) (ps : List Procedure) → AllOf (λ p. p.left ≡ left) ps → AllFind (led_to lib left ps)
  led_finds zero ps h = none_find ps h
  led_finds (suc left) ps h =
      level_finds ps (led_to lib left (called_by lib left ps)) (each_finds left ps ps (λ p there. there) h)
      (led_finds left (called_by lib left ps) (called_left left ps))

  -- an include entered it
  abbrev pub IsSomeEntered : Procedure → Type 0
  IsSomeEntered q = (left : ℕ) × (left ≤ 7) × IsEntered lib left q

  pub led_entered : (left : ℕ) (ps : List Procedure) → left ≤ 7 → AllOf (IsEntered lib left) ps → AllOf IsSomeEntered (led_to lib left ps)
  led_entered zero ps few h = all_mapped (IsEntered lib zero) IsSomeEntered ps (λ q k. (zero, few, k)) h
  led_entered (suc left) ps few h =
      all_append IsSomeEntered ps (led_to lib left (called_by lib left ps))
      (all_mapped (IsEntered lib (suc left)) IsSomeEntered ps (λ q k. (suc left, few, k)) h)
      (led_entered left (called_by lib left ps) (omega (arith, few))
      (all_once (is_shared lib) (IsEntered lib left) (all_entered left ps) (are_entered left ps)))

  pub all_find : (known_as : Option (List ℕ)) (main : Commands) → AllFind (procedures lib known_as main)
  unfolding procedures
  all_find known_as main = led_finds 7 (main_procedure known_as main ∷ []) (refl, tt)

  -- those after the main script
  pub after_main : (known_as : Option (List ℕ)) (main : Commands) → List Procedure
  after_main known_as main = led_to lib 6 (called_by lib 6 (main_procedure known_as main ∷ []))

  pub procedures_are : (known_as : Option (List ℕ)) (main : Commands)
      → procedures lib known_as main ≡ main_procedure known_as main ∷ after_main known_as main
  unfolding procedures after_main
  procedures_are known_as main = refl

  pub after_main_entered : (known_as : Option (List ℕ)) (main : Commands) → AllOf IsSomeEntered (after_main known_as main)
  unfolding after_main
  after_main_entered known_as main =
      let first = main_procedure known_as main ∷ [] in
      led_entered 6 (called_by lib 6 first) (omega arith) (all_once (is_shared lib) (IsEntered lib 6) (all_entered 6 first) (are_entered 6 first))
