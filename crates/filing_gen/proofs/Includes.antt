-- The code of an include does what the include does.
use Rattle.std.proofs.Common.{◌≡◌, ◌≢◌, ℕ, zero, suc, List, [], ◌∷◌, Bool, true, false, ◌&&◌, ◌||◌, cond, Option, Some}
use Rattle.std.proofs.Common.{None, refl, sym, ap, ◌∙◌, subst, arith}
use Rattle.std.specs.Prelude.{slice_index_or, slice_set}
use Rattle.std.proofs.lemmas.List.{get_or-set_same, get_or-set_other, length-set}
use Rattle.std.proofs.lemmas.Bool.{or_right, false_from_ne_true}
use Rattle.sieve_meaning.specs.Case.{Facts}
use Rattle.sieve_meaning.specs.Program.{Include, Commands}
use Rattle.sieve_meaning.specs.declared.run_fault.RunFault.TheVariants.{ScriptMissing, NestingTooDeep}
use Rattle.sieve_meaning.specs.Meaning.{ScriptName, script_named, same_script, is_among, Library, Filing, Ending}
use Rattle.sieve_meaning.specs.Meaning.{GoesOn, Returns, Stops, Faults, run, inclusion_within, inclusion}
use Rattle.sieve_meaning.specs.Meaning.{ending_of_include, with_entry, unless_entered, unless_missing, unless_active}
use Rattle.sieve_meaning.proofs.SharingLemmas.{same_is, same_self}
use Rattle.filing_table.specs.Machine.{T}
use Rattle.filing_flow.specs.Structure.{SetMark, Fail, Flow, nothing, action, sequence, block}
use Rattle.filing_flow.specs.Effect.{Exit, CallEffects, effect, caught}
use Rattle.filing_flow.specs.Effect as code
use Rattle.filing_gen.specs.BlockCode.{flow}
use Rattle.filing_gen.specs.Alike.{Marking, AreAlike, filing_at, Alike, Agrees}
use Rattle.filing_procedures.specs.Slots.{Slots, HasSlots}
use Rattle.filing_gen.specs.IncludeCode.{once_flow, active_flow, found_flow, including_flow, included_flow, MarksEntries, is_passed}
use Rattle.filing_gen.proofs.Means.{flow_means}

or_replaced : (a b d : Bool) → (a || b) ≡ true → (b ≡ true → d ≡ true) → (a || d) ≡ true
or_replaced true b d e h = refl
or_replaced false b d e h = h e

-- an include does not jump out of a block around it
caught_any : (marking : Marking) (n : ℕ) (e : Ending) (x : Exit) → Alike marking 0 e x → Alike marking 1 e x → Alike marking n e (caught x)
caught_any marking n (GoesOn f) x a b = record { filing = a.filing; related = a.related; exit = ap caught a.exit }
caught_any marking n (Returns f) x a b = absurd (cc (a.exit, b.exit))
caught_any marking n (Stops f) x a b = record { filing = a.filing; related = a.related; exit = ap caught a.exit }
caught_any marking n (Faults fault f) x a b = record { filing = a.filing; related = a.related; exit = ap caught a.exit }

-- the end of an included script
pub ended_alike : (marking : Marking) (n : ℕ) (e : Ending) (x : Exit) → Alike marking 0 e x → Alike marking n (ending_of_include e) (caught x)
ended_alike marking n (GoesOn f) x h = record { filing = h.filing; related = h.related; exit = ap caught h.exit }
ended_alike marking n (Returns f) x h = record { filing = h.filing; related = h.related; exit = ap caught h.exit }
ended_alike marking n (Stops f) x h = record { filing = h.filing; related = h.related; exit = ap caught h.exit }
ended_alike marking n (Faults fault f) x h = record { filing = h.filing; related = h.related; exit = ap caught h.exit }

module _ (called : CallEffects) (c : Facts) (lib : Library) (slot : Slots) (count : ℕ) (has : HasSlots lib slot count) (main : List ScriptName) where
  pub shrunk : (chain : List ScriptName) (s : ScriptName) (f : Filing) (g : code.FlowState)
      → AreAlike (MarksEntries lib slot main (s ∷ chain)) f g → AreAlike (MarksEntries lib slot main chain) f g
  shrunk chain s f g r = record {
    filed = r.filed;
    kept = r.kept;
    cancelled = r.cancelled;
    marks =
        record {
          long = r.marks.long;
          active = λ t h. r.marks.active t (or_right (same_script t s) (is_among chain t) h);
          found = r.marks.found;
          missing = r.marks.missing;
        };
  }

  found_after : (s : ScriptName) (x : Commands) → lib.find s ≡ Some x
      → (chain entered : List ScriptName) (marks : List Bool) → MarksEntries lib slot main chain entered marks
      → (t : ScriptName) (y : Commands) → lib.find t ≡ Some y → is_among main t ≡ false → (b : Bool)
      → same_script t s ≡ b → slice_index_or (slice_set marks (slot s) true) (slot t) false
      ≡ (b || is_among entered t)
  found_after s x at chain entered marks m t y there out true e =
      ap (λ (u : ScriptName). slice_index_or (slice_set marks (slot s) true) (slot u) false) (same_is t s e)
      ∙ get_or-set_same marks (slot s) true false (let l = has.inside s x at in omega (arith, l, has.few, m.long))
  found_after s x at chain entered marks m t y there out false e =
      let differs : slot t ≢ slot s = λ h. let same : t ≡ s = has.own t s y x there at h in
      absurd (cc (e, ap (λ (u : ScriptName). same_script u s) same ∙ same_self s)) in
      get_or-set_other marks (slot s) (slot t) true false differs ∙ m.found t y there out

  missing_after : (s : ScriptName) (x : Commands) → lib.find s ≡ Some x
      → (chain entered : List ScriptName) (marks : List Bool) → MarksEntries lib slot main chain entered marks
      → (t : ScriptName) → lib.find t ≡ None → (b : Bool) → same_script t s ≡ b → (b || is_among entered t) ≡ is_among main t
  missing_after s x at chain entered marks m t none true e = let same = ap lib.find (same_is t s e) in absurd (cc (sym none ∙ same ∙ at))
  missing_after s x at chain entered marks m t none false e = m.missing t none

  pub entered_related : (chain : List ScriptName) (s : ScriptName) (x : Commands) → lib.find s ≡ Some x
      → (f : Filing) (g : code.FlowState) → AreAlike (MarksEntries lib slot main chain) f g
      → AreAlike (MarksEntries lib slot main (s ∷ chain)) (with_entry s f) (record g { marks = slice_set g.marks (slot s) true })
  entered_related chain s x at f g r = record {
    filed = r.filed;
    kept = r.kept;
    cancelled = r.cancelled;
    marks = record {
      long = length-set g.marks (slot s) true ∙ r.marks.long;
      active = λ t h. or_replaced (same_script t s) (is_among chain t) (is_among f.entered t) h (r.marks.active t);
      found = λ t y there out. found_after s x at chain f.entered g.marks r.marks t y there out (same_script t s) refl;
      missing = λ t none. missing_after s x at chain f.entered g.marks r.marks t none (same_script t s) refl;
    };
  }

  -- what entering a script does, and its code
  abbrev pub Enters : List ScriptName → ScriptName → (Commands → Filing → Ending) → (Commands → Flow) → Type 0
  Enters chain s enter a = (x : Commands) → lib.find s ≡ Some x → is_among chain s ≡ false
      → (n : ℕ) (f : Filing) (g : code.FlowState) → AreAlike (MarksEntries lib slot main chain) f g
      → Alike (MarksEntries lib slot main chain) n (enter x f) (effect called c (a x) g [])

  once_alike : (chain : List ScriptName) (s : ScriptName) (x : Commands) (once : Bool) (a : Flow) (go : Filing
      → Ending) (n : ℕ) (f : Filing) (g : code.FlowState) → AreAlike (MarksEntries lib slot main chain) f g
      → lib.find s ≡ Some x → is_among main s ≡ false
      → ((n : ℕ) → Alike (MarksEntries lib slot main chain) n (go f) (effect called c a g []))
      → Alike (MarksEntries lib slot main chain) n (unless_entered (once && is_among f.entered s) go f)
      (effect called c (once_flow once (slot s) a) g [])
  once_alike chain s x false a go n f g r at out k = k n
  once_alike chain s x true a go n f g r at out k =
      let told : slice_index_or g.marks (slot s) false ≡ is_among f.entered s = r.marks.found s x at out in
      subst (λ (b : Bool).
      Alike (MarksEntries lib slot main chain) n (unless_entered (is_among f.entered s) go f)
      (caught (code.and_then (code.jump_exit true 0 g (T b ∷ [])) (effect called c a)))) (sym told)
      (elim (is_among f.entered s) as (λ b.
      Alike (MarksEntries lib slot main chain) n (unless_entered b go f)
      (caught (code.and_then (code.jump_exit true 0 g (T b ∷ [])) (effect called c a)))) [
        | true ↦ record { filing = g; related = r; exit = refl }
        | false ↦ caught_any (MarksEntries lib slot main chain) n (go f) (effect called c a g []) (k 0) (k 1)
      ])

  module _ (chain : List ScriptName) (within : (s : ScriptName) → is_among main s ≡ true
      → is_among chain s ≡ true) (enter : Commands → Filing → Ending) (a : Commands
      → Flow) (i : Include) (k : Enters chain (script_named i) enter a) where
    none_judged : (n : ℕ) (p optional : Bool) (go : Commands → Filing → Ending) (f : Filing) (g : code.FlowState)
        → AreAlike (MarksEntries lib slot main chain) f g
        → Alike (MarksEntries lib slot main chain) n (unless_entered p (unless_missing None optional go) f)
        (effect called c (cond (p || optional) nothing (action (Fail ScriptMissing))) g [])
    none_judged n true optional go f g r = record { filing = g; related = r; exit = refl }
    none_judged n false true go f g r = record { filing = g; related = r; exit = refl }
    none_judged n false false go f g r = record { filing = g; related = r; exit = refl }

    active_judged : (n : ℕ) (x : Commands) (once : Bool) (f : Filing) (g : code.FlowState) → AreAlike (MarksEntries lib slot main chain) f g
        → Alike (MarksEntries lib slot main chain) n
        (unless_entered (once && true) (unless_missing (Some x) i.optional (λ script.
        unless_active true (enter script))) f)
        (effect called c (active_flow true once (once_flow i.once (slot (script_named i)) (a x))) g [])
    active_judged n x true f g r = record { filing = g; related = r; exit = refl }
    active_judged n x false f g r = record { filing = g; related = r; exit = refl }

    judged : (o : Option Commands) → lib.find (script_named i) ≡ o → (b : Bool) → is_among chain (script_named i) ≡ b
        → (n : ℕ) (f : Filing) (g : code.FlowState) → AreAlike (MarksEntries lib slot main chain) f g
        → Alike (MarksEntries lib slot main chain) n (unless_entered (i.once && is_among f.entered (script_named i))
        (unless_missing o i.optional (λ script. unless_active b (enter script))) f)
        (effect called c (found_flow o (is_passed main i) (λ script.
        active_flow b i.once (once_flow i.once (slot (script_named i)) (a script)))) g [])
    judged None at b e n f g r =
        subst (λ (q : Bool).
        Alike (MarksEntries lib slot main chain) n (unless_entered (i.once && is_among f.entered (script_named i))
        (unless_missing None i.optional (λ script. unless_active b (enter script))) f)
        (effect called c (cond ((i.once && q) || i.optional) nothing (action (Fail ScriptMissing))) g []))
        (r.marks.missing (script_named i) at) (none_judged n (i.once && is_among f.entered (script_named i)) i.optional
        (λ script. unless_active b (enter script)) f g r)
    judged (Some x) at true e n f g r =
        subst (λ (q : Bool).
        Alike (MarksEntries lib slot main chain) n
        (unless_entered (i.once && q) (unless_missing (Some x) i.optional (λ script.
        unless_active true (enter script))) f)
        (effect called c (active_flow true i.once (once_flow i.once (slot (script_named i)) (a x))) g []))
        (sym (r.marks.active (script_named i) e)) (active_judged n x i.once f g r)
    judged (Some x) at false e n f g r =
        let out = false_from_ne_true (is_among main (script_named i)) (λ h. absurd (cc (within (script_named i) h, e))) in
        once_alike chain (script_named i) x i.once (a x) (unless_missing (Some x) i.optional (λ script.
        unless_active false (enter script))) n f g r at out (λ m. k x at e m f g r)

    pub including_alike : (n : ℕ) (f : Filing) (g : code.FlowState) → AreAlike (MarksEntries lib slot main chain) f g
        → Alike (MarksEntries lib slot main chain) n (inclusion lib chain enter i f)
        (effect called c (including_flow lib slot main chain a i) g [])
    including_alike n f g r = judged (lib.find (script_named i)) refl (is_among chain (script_named i)) refl n f g r

  pub included_agrees : (left : ℕ) (chain : List ScriptName)
      → ((s : ScriptName) → is_among main s ≡ true → is_among chain s ≡ true)
      → Agrees called c (MarksEntries lib slot main chain) (included_flow lib slot main left chain)
      (inclusion_within c lib left chain)
  included_agrees zero chain within i n f g r =
      including_alike chain within (λ script f. Faults NestingTooDeep f) (λ script.
      action (Fail NestingTooDeep)) i (λ x at out n f g r. record { filing = g; related = r; exit = refl }) n f g r
  included_agrees (suc left) chain within i n f g r =
      let s = script_named i in
      let inner = included_agrees left (s ∷ chain) (λ t h. or_right (same_script t s) (is_among chain t) (within t h)) in
      including_alike chain within (λ script f.
      ending_of_include (run c (inclusion_within c lib left (script_named i ∷ chain)) script
      (with_entry (script_named i) f)))
      (λ script. block
      (sequence (action (SetMark (slot (script_named i))))
      (flow (included_flow lib slot main left (script_named i ∷ chain)) 0 script))) i
      (λ x at out n f g r.
      let now : code.FlowState = record g { marks = slice_set g.marks (slot (script_named i)) true } in
      let h = flow_means called c (MarksEntries lib slot main (script_named i ∷ chain))
      (included_flow lib slot main left (script_named i ∷ chain)) (inclusion_within c lib left (script_named i
      ∷ chain)) inner 0 x (with_entry (script_named i) f) now (entered_related chain (script_named i) x at f g r) in
      let e = run c (inclusion_within c lib left (script_named i ∷ chain)) x (with_entry (script_named i) f) in
      let outer : Alike (MarksEntries lib slot main chain) 0 e
      (effect called c (flow (included_flow lib slot main left (script_named i ∷ chain)) 0 x) now []) =
      record {
        filing = h.filing;
        related = shrunk chain (script_named i) (filing_at e) h.filing h.related;
        exit =
            h.exit;
      } in
      ended_alike (MarksEntries lib slot main chain) n e
      (effect called c (flow (included_flow lib slot main left (script_named i ∷ chain)) 0 x) now []) outer) n f g r
