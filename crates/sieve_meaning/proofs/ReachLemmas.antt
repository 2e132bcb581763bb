-- Reaching over sixty-four includes is reaching, where at most sixty-four scripts are there: a walk that comes to a script twice has
-- a loop that can be left out.
use Rattle.std.proofs.Common.{◌≡◌, ◌≤◌, ℕ, zero, suc, List, [], ◌∷◌, length, map, filter, Bool, true, false, not, ◌||◌}
use Rattle.std.proofs.Common.{cond, Option, Some, None, inl, inr, refl, sym, ap, ◌∙◌, subst, arith}
use Rattle.std.specs.List.{list_any}
use Rattle.std.proofs.lemmas.Bool.{or_right, or_left, or_cases, false_from_ne_true, not-false}
use Rattle.std.proofs.lemmas.Option.{same_Some}
use Rattle.sieve_meaning.specs.Program.{Include, Commands}
use Rattle.sieve_meaning.specs.Meaning.{ScriptName, script_named, same_script, is_among, Library}
use Rattle.sieve_meaning.specs.Procedures.{includes_of, once, included_names, holds_if_there, reaches_within, reaches}
use Rattle.sieve_meaning.specs.Sharing.{Includes, Reaches, at_once, over, ReachLaw}
use Rattle.sieve_meaning.proofs.SharingLemmas.{IsIn, same_is, same_self, kept_any, reaches_more, reaches_named}

-- NAMES

found_named : (s : ScriptName) (is : List Include) → is_among (map script_named is) s ≡ true → (i : Include) × IsIn i is × (s ≡ script_named i)
found_named s [] h = absurd (cc h)
found_named s (i ∷ is) h = elim (or_cases (same_script s (script_named i)) (is_among (map script_named is) s) h) [
  | inl here ↦ (i, inl refl, same_is s (script_named i) here)
  | inr later ↦ let f = found_named s is later in (f.0, inr f.1, f.2)
]

any_among : (p : ScriptName → Bool) (names : List ScriptName) → list_any p names ≡ true → (s : ScriptName) × (is_among names s ≡ true) × (p s ≡ true)
any_among p [] h = absurd (cc h)
any_among p (t ∷ ts) h = elim (or_cases (p t) (list_any p ts) h) [
  | inl here ↦ (t, or_left (same_script t t) (is_among ts t) (same_self t), here)
  | inr later ↦ let f = any_among p ts later in (f.0, or_right (same_script f.0 t) (is_among ts f.0) f.1, f.2)
]

filtered_from : (s : ScriptName) (b : Bool) (t : ScriptName) (ts us : List ScriptName)
    → (is_among us s ≡ true → is_among ts s ≡ true) → is_among (cond b (t ∷ us) us) s ≡ true
    → (same_script s t || is_among ts s) ≡ true
filtered_from s true t ts us rest k = elim (or_cases (same_script s t) (is_among us s) k) [
  | inl here ↦
      or_left (same_script s t) (is_among ts s) here
  | inr later ↦ or_right (same_script s t) (is_among ts s) (rest later)
]
filtered_from s false t ts us rest k = or_right (same_script s t) (is_among ts s) (rest k)

filtered : (s : ScriptName) (q : ScriptName → Bool) (names : List ScriptName) → is_among (filter q names) s ≡ true → is_among names s ≡ true
filtered s q [] h = h
filtered s q (t ∷ ts) h = filtered_from s (q t) t ts (filter q ts) (filtered s q ts) h

among_once : (s : ScriptName) (names : List ScriptName) → is_among (once same_script names) s ≡ true → is_among names s ≡ true
among_once s [] h = h
among_once s (t ∷ ts) h = elim (or_cases (same_script s t) (is_among (filter (λ u. not (same_script t u)) (once same_script ts)) s) h) [
  | inl here ↦ or_left (same_script s t) (is_among ts s) here
  | inr later ↦ or_right (same_script s t) (is_among ts s) (among_once s ts (filtered s (λ u. not (same_script t u)) (once same_script ts) later))
]

-- a script that is there, of a test that holds if it is
pub there_of : (o : Option Commands) (p : Commands → Bool) → holds_if_there o p ≡ true → (x : Commands) × (o ≡ Some x) × (p x ≡ true)
there_of None p h = absurd (cc h)
there_of (Some x) p h = (x, refl, h)

-- LISTS WITHOUT REPEATS

abbrev AreOnce : List ScriptName → Type 0
AreOnce [] = Unit {0}
AreOnce (s ∷ ss) = (is_among ss s ≡ false) × AreOnce ss

abbrev without : ScriptName → List ScriptName → List ScriptName
without s names = filter (λ t. not (same_script s t)) names

fewer_filtered : (s : ScriptName) (b : Bool) (t : ScriptName) (ts : List ScriptName) → length (without s ts) ≤ length ts
    → length (cond b (t ∷ without s ts) (without s ts)) ≤ suc (length ts)
fewer_filtered s true t ts h = omega (arith, h)
fewer_filtered s false t ts h = omega (arith, h)

no_more : (s : ScriptName) (names : List ScriptName) → length (without s names) ≤ length names
no_more s [] = omega arith
no_more s (t ∷ ts) = fewer_filtered s (not (same_script s t)) t ts (no_more s ts)

one_less : (s : ScriptName) (names : List ScriptName) → is_among names s ≡ true → suc (length (without s names)) ≤ length names
one_less s [] h = absurd (cc h)
one_less s (t ∷ ts) h = by (same_script s t) h (one_less s ts) (no_more s ts)
  where
    by : (b : Bool) → (b || is_among ts s) ≡ true → (is_among ts s ≡ true → suc (length (without s ts)) ≤ length ts)
        → length (without s ts) ≤ length ts
        → suc (length (cond (not b) (t ∷ without s ts) (without s ts))) ≤ suc (length ts)
    by true k later few = omega (arith, few)
    by false k later few = let l = later k in omega (arith, l)

still_among : (s : ScriptName) (names : List ScriptName) (u : ScriptName) → same_script u s ≡ false
    → is_among names u ≡ true → is_among (without s names) u ≡ true
still_among s names u differs h =
    kept_any (same_script u) (λ t. not (same_script s t)) names
    (λ t dropped.
    false_from_ne_true (same_script u t) (λ same.
    absurd (cc (sym differs
    ∙ ap (λ (v : ScriptName). same_script u v) (same_is s t (not-false (same_script s t) dropped)) ∙ same)))) h

no_longer : (ws names : List ScriptName) → AreOnce ws → ((s : ScriptName) → is_among ws s ≡ true → is_among names s ≡ true) → length ws ≤ length names
no_longer [] names each inside = omega arith
no_longer (s ∷ ws) names each inside =
    let less = one_less s names (inside s (or_left (same_script s s) (is_among ws s) (same_self s))) in
    let rest = no_longer ws (without s names) each.1 (λ u there.
    still_among s names u (false_from_ne_true (same_script u s) (λ same.
    absurd (cc (sym each.0 ∙ ap (λ (v : ScriptName). is_among ws v) (sym (same_is u s same)) ∙ there))))
    (inside u (or_right (same_script u s) (is_among ws u) there))) in
    omega (arith, less, rest)

-- WALKS

module _ (lib : Library) where
  -- from a script over these to the last one of all
  abbrev OnWalk : ScriptName → Commands → List ScriptName → ScriptName → Type 0
  OnWalk s x [] t = s ≡ t
  OnWalk s x (r ∷ ws) t = (y : Commands) × Includes lib x r y × OnWalk r y ws t

  walk_found : (s : ScriptName) (x : Commands) (ws : List ScriptName) (t : ScriptName) → OnWalk s x ws t
      → (u : ScriptName) → is_among ws u ≡ true → (y : Commands) × (lib.find u ≡ Some y)
  walk_found s x [] t h u there = absurd (cc there)
  walk_found s x (r ∷ ws) t h u there = elim (or_cases (same_script u r) (is_among ws u) there) [
    | inl here ↦ (h.0, subst (λ (v : ScriptName). lib.find v ≡ Some h.0) (sym (same_is u r here)) h.1.there)
    | inr later ↦ walk_found r h.0 ws t h.2 u later
  ]

  -- what is left of a walk after a script on it
  cut : (s : ScriptName) (x : Commands) → lib.find s ≡ Some x
      → (r : ScriptName) (y : Commands) (ws : List ScriptName) (t : ScriptName) → OnWalk r y ws t → AreOnce ws
      → is_among ws s ≡ true → (vs : List ScriptName) × OnWalk s x vs t × AreOnce (s ∷ vs)
  cut s x at r y [] t h each there = absurd (cc there)
  cut s x at r y (q ∷ ws) t h each there = elim (or_cases (same_script s q) (is_among ws s) there) [
    | inl here ↦
        let same : s ≡ q = same_is s q here in
        let script : h.0 ≡ x = same_Some h.0 x (sym h.1.there ∙ ap (λ (v : ScriptName). lib.find v) (sym same) ∙ at) in
        let on : OnWalk s x ws t = subst (λ (v : ScriptName). OnWalk v x ws t) (sym same) (subst (λ (z : Commands). OnWalk q z ws t) script h.2) in
        (ws, on, (ap (λ (v : ScriptName). is_among ws v) same ∙ each.0, each.1))
    | inr later ↦ cut s x at q h.0 ws t h.2 each.1 later
  ]

  keep_or_cut : (s : ScriptName) (x : Commands) → lib.find s ≡ Some x → (ws : List ScriptName) (t : ScriptName)
      → OnWalk s x ws t → AreOnce ws → (b : Bool) → is_among ws s ≡ b → (vs : List ScriptName) × OnWalk s x vs t
      × AreOnce (s ∷ vs)
  keep_or_cut s x at ws t h each true there = cut s x at s x ws t h each there
  keep_or_cut s x at ws t h each false out = (ws, h, (out, each))

  -- the same way with no script twice
  erased : (s : ScriptName) (x : Commands) → lib.find s ≡ Some x → (ws : List ScriptName) (t : ScriptName)
      → OnWalk s x ws t → (vs : List ScriptName) × OnWalk s x vs t × AreOnce (s ∷ vs)
  erased s x at [] t h = ([], h, (refl, tt))
  erased s x at (r ∷ ws) t h =
      let rest = erased r h.0 h.1.there ws t h.2 in
      let on : OnWalk s x (r ∷ rest.0) t = (h.0, h.1, rest.1) in
      keep_or_cut s x at (r ∷ rest.0) t on rest.2 (is_among (r ∷ rest.0) s) refl

  reaches_over : (n : ℕ) (x : Commands) (s : ScriptName) (y : Commands) (t : ScriptName) → Includes lib x s y
      → (same_script s t || reaches_within lib n y t) ≡ true → reaches_within lib (suc n) x t ≡ true
  reaches_over n x s y t h k =
      let f = found_named s (includes_of x) h.named in
      reaches_named lib n x y f.0 f.1 (ap (λ (v : ScriptName). lib.find v) (sym f.2)
      ∙ h.there) t (subst (λ (v : ScriptName). (same_script v t || reaches_within lib n y t) ≡ true) f.2 k)

  walk_reaches : (x : Commands) (s : ScriptName) (y : Commands) (ws : List ScriptName) (t : ScriptName)
      → Includes lib x s y → OnWalk s y ws t → reaches_within lib (suc (length ws)) x t ≡ true
  walk_reaches x s y [] t h on =
      reaches_over 0 x s y t h (or_left (same_script s t) (reaches_within lib 0 y t) (subst (λ (v : ScriptName).
      same_script s v ≡ true) on (same_self s)))
  walk_reaches x s y (r ∷ ws) t h on =
      reaches_over (suc (length ws)) x s y t h (or_right (same_script s t) (reaches_within lib (suc (length ws)) y t)
      (walk_reaches y r on.0 ws t on.1 on.2))

  -- a script that is reached stands at the end of a walk
  walk_of : (x : Commands) (t : ScriptName) → Reaches lib x t → (s : ScriptName) × (y : Commands)
      × (ws : List ScriptName) × Includes lib x s y × OnWalk s y ws t
  walk_of _ _ (at_once x s y h) = (s, y, [], h, refl)
  walk_of _ _ (over x s y t h k) = let w = walk_of y t k in (s, y, w.0 ∷ w.2, h, (w.1, w.3, w.4))

  reaches_all : (names : List ScriptName) → length names ≤ 64 → ((s : ScriptName) (x : Commands) → lib.find s ≡ Some x
      → is_among names s ≡ true) → (x : Commands) (t : ScriptName) → Reaches lib x t → reaches lib x t ≡ true
  unfolding reaches
  reaches_all names few inside x t h =
      let w = walk_of x t h in
      let e = erased w.0 w.1 w.3.there w.2 t w.4 in
      let short : length (w.0 ∷ e.0) ≤ length names = no_longer (w.0 ∷ e.0) names e.2 (λ u there.
      elim (or_cases (same_script u w.0) (is_among e.0 u) there) [
        | inl here ↦ inside u w.1 (ap (λ (v : ScriptName). lib.find v) (same_is u w.0 here) ∙ w.3.there)
        | inr later ↦ let f = walk_found w.0 w.1 e.0 t e.1 u later in inside u f.0 f.1
      ]) in
      reaches_more lib (suc (length e.0)) 64 (omega (arith, short, few)) x t (walk_reaches x w.0 w.1 e.0 t w.3 e.1)

  reached_is : (n : ℕ) (x : Commands) (t : ScriptName) → reaches_within lib n x t ≡ true → Reaches lib x t
  reached_is zero x t h = absurd (cc h)
  reached_is (suc n) x t h =
      let f = any_among (λ s. holds_if_there (lib.find s) (λ y. same_script s t || reaches_within lib n y t)) (included_names x) h in
      let y = there_of (lib.find f.0) (λ y. same_script f.0 t || reaches_within lib n y t) f.2 in
      let includes : Includes lib x f.0 y.0 = record { named = among_once f.0 (map script_named (includes_of x)) f.1; there = y.1 } in
      elim (or_cases (same_script f.0 t) (reaches_within lib n y.0 t) y.2) [
        | inl here ↦ subst (λ (v : ScriptName). Reaches lib x v) (same_is f.0 t here) (at_once x f.0 y.0 includes)
        | inr later ↦ over x f.0 y.0 t includes (reached_is n y.0 t later)
      ]

  reached_all : (x : Commands) (t : ScriptName) → reaches lib x t ≡ true → Reaches lib x t
  unfolding reaches
  reached_all x t h = reached_is 64 x t h

pub reach_law : ReachLaw
reach_law lib names few inside script s = (reached_all lib script s, reaches_all lib names few inside script s)
