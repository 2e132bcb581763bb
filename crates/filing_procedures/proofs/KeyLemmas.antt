-- Keys tell procedures apart as the definition does.
use Rattle.std.proofs.Common.{◌≡◌, ℕ, zero, suc, ◌<◌, List, [], ◌∷◌, Bool, true, ◌&&◌, ◌||◌, Option, Some, inl, inr, sym, ap, ◌∙◌, subst}
use Rattle.std.specs.Prelude.{nat_eq, slice_get}
use Rattle.std.specs.List.{list_any}
use Rattle.std.proofs.lemmas.Bool.{and_parts, and_from, or_right, or_left, or_cases, eq-eqb, eqb-true}
use Rattle.std.proofs.lemmas.Option.{same_Some}
use Rattle.std.specs.Cmp.{both_ways}
use Rattle.sieve_meaning.proofs.ReachLemmas.{there_of}
use Rattle.sieve_meaning.specs.Program.{Commands}
use Rattle.sieve_meaning.specs.Meaning.{ScriptName, same_script, is_among, Library}
use Rattle.sieve_meaning.specs.Procedures.{included_names, holds_if_there, reaches_within, reaches, Procedure, are_among, is_shared}
use Rattle.sieve_meaning.proofs.SharingLemmas.{same_is, same_self, among_those, shared_tests}
use Rattle.sieve_meaning.proofs.ProcedureLemmas.{are_among_from, shared_from, first_is, first_from}
use Rattle.sieve_library.specs.Libraries.{Scripts, library_of}
use Rattle.filing_procedures.specs.declared.slot_set.SlotSet.{SlotSet}
use Rattle.filing_procedures.specs.declared.key.Key.{Key}
use Rattle.filing_procedures.specs.Sets.{has}
use Rattle.filing_procedures.specs.IncludedScripts.{is_there}
use Rattle.filing_procedures.specs.Slots.{slots_of, HasSlots}
use Rattle.filing_procedures.specs.ReachTables.{has_at, ReachIs}
use Rattle.filing_procedures.specs.Keys.{is_active, IsEnteredKey}

some_any : {A : Type 0} (t : A → Bool) (xs : List A) → list_any t xs ≡ true → (x : A) × (t x ≡ true)
some_any t [] h = absurd (cc h)
some_any t (x ∷ xs) h = elim (or_cases (t x) (list_any t xs) h) [ inl here ↦ (x, here) | inr later ↦ some_any t xs later ]

module _ (lib : Library) where
  -- what is reached is there
  reached_within : (n : ℕ) (x : Commands) (s : ScriptName) → reaches_within lib n x s ≡ true → (y : Commands) × (lib.find s ≡ Some y)
  reached_within zero x s h = absurd (cc h)
  reached_within (suc n) x s h =
      let t = some_any (λ t. holds_if_there (lib.find t) (λ y. same_script t s || reaches_within lib n y s)) (included_names x) h in
      let f = there_of (lib.find t.0) (λ y. same_script t.0 s || reaches_within lib n y s) t.1 in
      elim (or_cases (same_script t.0 s) (reaches_within lib n f.0 s) f.2) [
        | inl is ↦ (f.0, ap (λ (u : ScriptName). lib.find u) (sym (same_is t.0 s is)) ∙ f.1)
        | inr later ↦ reached_within n f.0 s later
      ]

  pub reached_there : (x : Commands) (s : ScriptName) → reaches lib x s ≡ true → (y : Commands) × (lib.find s ≡ Some y)
  unfolding reaches
  reached_there x s h = reached_within 64 x s h

module _ (l : Scripts) (count : ℕ) (slots : HasSlots (library_of l) (slots_of l) count) where
  -- an active script has its slot among those that are active
  active_from : (chain : List ScriptName) (s : ScriptName) (y : Commands) → (library_of l).find s ≡ Some y
      → is_among chain s ≡ true → is_active l chain (slots_of l s) ≡ true
  active_from [] s y at h = absurd (cc h)
  active_from (t ∷ ts) s y at h = elim (or_cases (same_script s t) (is_among ts s) h) [
    | inl is ↦
        or_left (is_there (library_of l) t && nat_eq (slots_of l t) (slots_of l s)) (is_active l ts (slots_of l s))
        (and_from (is_there (library_of l) t) (nat_eq (slots_of l t) (slots_of l s))
        (ap (λ (o : Option Commands). holds_if_there o (λ script. true)) (ap (λ (u : ScriptName). (library_of l).find u) (sym (same_is s t is)) ∙ at))
        (eq-eqb (slots_of l t) (slots_of l s) (ap (slots_of l) (sym (same_is s t is)))))
    | inr later ↦
        or_right (is_there (library_of l) t && nat_eq (slots_of l t) (slots_of l s)) (is_active l ts (slots_of l s))
        (active_from ts s y at later)
  ]

  -- the script of a slot that is active
  active_is : (chain : List ScriptName) (k : ℕ) → is_active l chain k ≡ true → (s : ScriptName) × (y : Commands)
      × ((library_of l).find s ≡ Some y) × (slots_of l s ≡ k) × (is_among chain s ≡ true)
  active_is [] k h = absurd (cc h)
  active_is (t ∷ ts) k h = elim (or_cases (is_there (library_of l) t && nat_eq (slots_of l t) k) (is_active l ts k) h) [
    | inl here ↦
        let parts = and_parts (is_there (library_of l) t) (nat_eq (slots_of l t) k) here in
        let found = there_of ((library_of l).find t) (λ script. true) parts.0 in
        (t, found.0, found.1, eqb-true (slots_of l t) k parts.1, or_left (same_script t t) (is_among ts t) (same_self t))
    | inr later ↦ let s = active_is ts k later in (s.0, s.1, s.2, s.3, or_right (same_script s.0 t) (is_among ts s.0) s.4)
  ]

  among_from : (chain : List ScriptName) (u : ScriptName) (y : Commands) → (library_of l).find u ≡ Some y
      → is_active l chain (slots_of l u) ≡ true → is_among chain u ≡ true
  among_from chain u y at h =
      let s = active_is chain (slots_of l u) h in
      subst (λ (v : ScriptName). is_among chain v ≡ true) (slots.own s.0 u s.1 y s.2 at s.3) s.4

  module _ (sets : List SlotSet) (long : (s : ScriptName) (x : Commands) → (library_of l).find s ≡ Some x
      → slots_of l s < 64) (reach : ReachIs l sets) (a b : Key) (p q : Procedure) (ka : IsEnteredKey l a p)
      (kb : IsEnteredKey l b q) where
    -- the active scripts that one reaches are among those of the other
    side : (a b : Key) (p q : Procedure) → (ka : IsEnteredKey l a p) → (kb : IsEnteredKey l b q) → (slot : ℕ) → slots_of l ka.name ≡ slot
        → ((k : ℕ) → k < 64 → (has a.active k && has_at (slice_get sets slot) k) ≡ true → has b.active k ≡ true)
        → are_among (library_of l) p.script p.chain q.chain ≡ true
    side a b p q ka kb slot at h =
        are_among_from (library_of l) p.script p.chain q.chain (λ u among reached.
        let y = reached_there (library_of l) p.script u reached in
        let told : has_at (slice_get sets slot) (slots_of l u) ≡ true =
        ap (λ (n : ℕ). has_at (slice_get sets n) (slots_of l u)) (sym at)
        ∙ reach ka.name u p.script y.0 ka.there y.1 ∙ reached in
        let here : has a.active (slots_of l u) ≡ true = ka.of.active (slots_of l u) ∙ active_from p.chain u y.0 y.1 among in
        let there : has b.active (slots_of l u) ≡ true =
        h (slots_of l u) (long u y.0 y.1)
        (and_from (has a.active (slots_of l u)) (has_at (slice_get sets slot) (slots_of l u)) here told) in
        among_from q.chain u y.0 y.1 (sym (kb.of.active (slots_of l u)) ∙ there))

    -- the other way round
    back : (a b : Key) (p q : Procedure) → (ka : IsEnteredKey l a p) → (kb : IsEnteredKey l b q)
        → are_among (library_of l) p.script p.chain q.chain ≡ true → (k : ℕ)
        → (has a.active k && has_at (slice_get sets (slots_of l ka.name)) k) ≡ true → has b.active k ≡ true
    back a b p q ka kb h k both =
        let parts = and_parts (has a.active k) (has_at (slice_get sets (slots_of l ka.name)) k) both in
        let s = active_is p.chain k (sym (ka.of.active k) ∙ parts.0) in
        let reached : reaches (library_of l) p.script s.0 ≡ true = sym (reach ka.name s.0 p.script s.1 ka.there s.2)
        ∙ ap (λ (n : ℕ). has_at (slice_get sets (slots_of l ka.name)) n) s.3 ∙ parts.1 in
        let among = among_those (library_of l) p.script p.chain q.chain s.0 h reached s.4 in
        kb.of.active k ∙ ap (is_active l q.chain) (sym s.3) ∙ active_from q.chain s.0 s.1 s.2 among

    pub shared_from_keys : (slot : ℕ) → a.slot ≡ Some slot → b.slot ≡ Some slot → a.left ≡ b.left
        → ((k : ℕ) → k < 64 → (has a.active k && has_at (slice_get sets slot) k)
        ≡ (has b.active k && has_at (slice_get sets slot) k)) → is_shared (library_of l) p q ≡ true
    shared_from_keys slot sa sb left same =
        let ea : slots_of l ka.name ≡ slot = same_Some (slots_of l ka.name) slot (sym ka.slot ∙ sa) in
        let eb : slots_of l kb.name ≡ slot = same_Some (slots_of l kb.name) slot (sym kb.slot ∙ sb) in
        let one : ka.name ≡ kb.name = slots.own ka.name kb.name p.script q.script ka.there kb.there (ea ∙ sym eb) in
        let script : p.script ≡ q.script = same_Some _ _ (sym ka.there ∙ ap (λ (s : ScriptName). (library_of l).find s) one ∙ kb.there) in
        let here = side a b p q ka kb slot ea (λ k inside h.
        (and_parts (has b.active k) (has_at (slice_get sets slot) k) (sym (same k inside) ∙ h)).0) in
        let there = side b a q p kb ka slot eb (λ k inside h. (and_parts (has a.active k) (has_at (slice_get sets slot) k) (same k inside ∙ h)).0) in
        shared_from (library_of l) p q (first_from (library_of l) p.chain q.chain ka.name kb.name ka.before kb.before
        ka.chain kb.chain one) (sym ka.of.left ∙ left ∙ kb.of.left) here
        (subst (λ (x : Commands). are_among (library_of l) x q.chain p.chain ≡ true) (sym script) there)

    pub record KeysAgree : Type 0 where
      pub slot : slots_of l ka.name ≡ slots_of l kb.name
      pub left : a.left ≡ b.left
      pub active : (k : ℕ) → (has a.active k && has_at (slice_get sets (slots_of l ka.name)) k)
          ≡ (has b.active k && has_at (slice_get sets (slots_of l ka.name)) k)

    pub keys_from_shared : is_shared (library_of l) p q ≡ true → KeysAgree
    keys_from_shared shared =
        let t = shared_tests (library_of l) p q shared in
        let one : ka.name ≡ kb.name = first_is (library_of l) p.chain q.chain ka.name kb.name ka.before kb.before ka.chain kb.chain t.0 in
        let slot : slots_of l ka.name ≡ slots_of l kb.name = ap (slots_of l) one in
        let script : p.script ≡ q.script = same_Some _ _ (sym ka.there ∙ ap (λ (s : ScriptName). (library_of l).find s) one ∙ kb.there) in
        let other = subst (λ (x : Commands). are_among (library_of l) x q.chain p.chain ≡ true) script t.3 in
        let R : ℕ → Bool = λ k. has_at (slice_get sets (slots_of l ka.name)) k in
        record {
          slot = slot;
          left = ka.of.left ∙ eqb-true p.left q.left t.1 ∙ sym kb.of.left;
          active = λ k. both_ways (has a.active k && R k) (has b.active k && R k)
              (λ h. and_from (has b.active k) (R k) (back a b p q ka kb t.2 k h) (and_parts (has a.active k) (R k) h).1)
              (λ h. and_from (has a.active k) (R k)
              (back b a q p kb ka other k (subst (λ (n : ℕ). (has b.active k && has_at (slice_get sets n) k)
              ≡ true) slot h)) (and_parts (has b.active k) (R k) h).1);
        }

    pub agree_at : (slot : ℕ) → a.slot ≡ Some slot → is_shared (library_of l) p q ≡ true → (k : ℕ)
        → (has a.active k && has_at (slice_get sets slot) k) ≡ (has b.active k && has_at (slice_get sets slot) k)
    agree_at slot sa shared k =
        let ea : slots_of l ka.name ≡ slot = same_Some (slots_of l ka.name) slot (sym ka.slot ∙ sa) in
        subst (λ (n : ℕ). (has a.active k && has_at (slice_get sets n) k)
        ≡ (has b.active k && has_at (slice_get sets n) k)) ea ((keys_from_shared shared).active k)
