-- The code of a procedure does what its script means, after any active scripts that agree with the procedure's own on
-- what the script reaches.
use Rattle.std.proofs.Common.{◌≡◌, ◌≤◌, ◌+◌, ℕ, zero, suc, List, [], ◌∷◌, Bool, true, false, ◌||◌, Option, Some, None}
use Rattle.std.proofs.Common.{refl, sym, ap, ◌∙◌, subst, arith}
use Rattle.std.specs.Prelude.{slice_get}
use Rattle.std.specs.List.{list_any}
use Rattle.std.proofs.lemmas.Bool.{or_right, eqb-true}
use Rattle.sieve_meaning.specs.Case.{Facts}
use Rattle.sieve_meaning.specs.Program.{Include, Commands}
use Rattle.sieve_meaning.specs.declared.run_fault.RunFault.TheVariants.{NestingTooDeep}
use Rattle.sieve_meaning.specs.Meaning.{ScriptName, script_named, same_script, is_among, Library, Filing, Faults, run}
use Rattle.sieve_meaning.specs.Meaning.{inclusion_within, ending_of_include, with_entry}
use Rattle.sieve_meaning.specs.Procedures.{includes_of, reaches_within, Procedure, is_shared, entered_if, entry}
use Rattle.sieve_meaning.proofs.SharingLemmas.{IsIn, SameFor, at_include, inside_include, reaches_more, same_reached, shared_tests}
use Rattle.sieve_meaning.proofs.ProcedureLemmas.{IsEntered, FindsCalls, named_once, shared_script}
use Rattle.filing_flow.specs.Structure.{Fail, CallTo, Flow, action}
use Rattle.filing_flow.specs.Effect.{CallEffects, effect}
use Rattle.filing_flow.specs.Effect as code
use Rattle.std.specs.Prelude.{slice_set}
use Rattle.filing_gen.specs.BlockCode.{script_flow}
use Rattle.filing_gen.specs.Alike.{AreAlike, filing_at, Alike}
use Rattle.filing_procedures.specs.Slots.{Slots, HasSlots}
use Rattle.filing_gen.specs.IncludeCode.{once_flow, active_flow, found_flow, including_flow, MarksEntries, is_passed}
use Rattle.filing_procedures.specs.ProcedureCode.{number_of}
use Rattle.filing_gen.specs.Procedures.{call_flow, call_entry, calling_flow}
use Rattle.filing_gen.proofs.Includes.{including_alike, entered_related, shrunk}
use Rattle.filing_gen.proofs.Means.{AgreesAt, means_at}

-- NUMBERS

-- the first procedure that an include shares
pub record Numbered (lib : Library) (later : List Procedure) (e : Procedure) : Type 0 where
  pub number : ℕ
  pub procedure : Procedure
  pub number_is : number_of lib later e ≡ Some number
  pub stands : slice_get later number ≡ Some procedure
  pub shared : is_shared lib procedure e ≡ true

numbered_from : (lib : Library) (q : Procedure) (later : List Procedure) (e : Procedure) (b : Bool)
    → is_shared lib q e ≡ b → (b || list_any (λ q. is_shared lib q e) later) ≡ true
    → (list_any (λ q. is_shared lib q e) later ≡ true → Numbered lib later e) → Numbered lib (q ∷ later) e
numbered_from lib q later e true is h rest_has = record { number = 0; procedure = q; number_is = rw is refl; stands = refl; shared = is }
numbered_from lib q later e false is h rest_has =
    let n = rest_has h in
    record { number = suc n.number; procedure = n.procedure; number_is = rw (is, n.number_is) refl; stands = n.stands; shared = n.shared }

pub numbered : (lib : Library) (later : List Procedure) (e : Procedure) → list_any (λ q. is_shared lib q e) later ≡ true → Numbered lib later e
numbered lib [] e h = absurd (cc h)
numbered lib (q ∷ later) e h = numbered_from lib q later e (is_shared lib q e) refl h (numbered lib later e)

-- ENTRIES

found_alike : (o : Option Commands) (passed a b : Bool) (go : Bool → Commands → Flow)
    → ((y : Commands) → o ≡ Some y → a ≡ b) → found_flow o passed (go a) ≡ found_flow o passed (go b)
found_alike None passed a b go h = refl
found_alike (Some y) passed a b go h = ap (λ (t : Bool). go t y) (h y refl)

-- an include looks at the active scripts only where its own is there
chain_alike : (lib : Library) (slot : Slots) (main a b : List ScriptName) (enter : Commands → Flow) (i : Include)
    → ((y : Commands) → lib.find (script_named i) ≡ Some y → is_among a (script_named i) ≡ is_among b (script_named i))
    → including_flow lib slot main a enter i ≡ including_flow lib slot main b enter i
chain_alike lib slot main a b enter i h =
    found_alike (lib.find (script_named i)) (is_passed main i) (is_among a (script_named i))
    (is_among b (script_named i)) (λ active script.
    active_flow active i.once (once_flow i.once (slot (script_named i)) (enter script))) h

pub entered_there : (lib : Library) (left : ℕ) (chain : List ScriptName) (s : ScriptName) (x : Commands)
    → lib.find s ≡ Some x → is_among chain s ≡ false
    → entry lib left chain s ≡ Some (record { script = x; left = left; chain = s ∷ chain })
entered_there lib left chain s x at out =
    ap (λ (o : Option Commands). entered_if o (is_among chain s) left (s ∷ chain)) at
    ∙ ap (λ (b : Bool). entered_if (Some x) b left (s ∷ chain)) out

module _ (called : CallEffects) (c : Facts) (lib : Library) (slot : Slots) (count : ℕ) (has : HasSlots lib slot count) (main : List ScriptName) where
  -- What a call of a procedure does: it runs the script after the scripts that are active, and returns.
  abbrev pub CallMeans : Flow → Procedure → Type 0
  CallMeans a q =
      (chain : List ScriptName) → SameFor lib (suc q.left) q.script q.chain chain
      → ((s : ScriptName) → is_among main s ≡ true → is_among chain s ≡ true)
      → (n : ℕ) (f : Filing) (g : code.FlowState) → AreAlike (MarksEntries lib slot main chain) f g
      → Alike (MarksEntries lib slot main chain) n
      (ending_of_include (run c (inclusion_within c lib q.left chain) q.script f)) (effect called c a g [])

  -- calls of the procedures after the one with the number `own`
  abbrev pub CallsMean : (own : ℕ) → List Procedure → Type 0
  CallsMean own later = (n : ℕ) (q : Procedure) → slice_get later n ≡ Some q
      → CallMeans (action (CallTo (own + suc n))) q × (lefts : ℕ) × IsEntered lib lefts q

  module _ (own : ℕ) (later : List Procedure) (means : CallsMean own later) (p : Procedure) (few : p.left ≤ 7)
      (finds : FindsCalls lib p later) (chain : List ScriptName)
      (same : SameFor lib (suc p.left) p.script p.chain chain) (within : (s : ScriptName) → is_among main s ≡ true
      → is_among chain s ≡ true) where
    -- the call of an include that enters a script
    call_means : (left : ℕ) → p.left ≡ suc left → (i : Include) → IsIn i (includes_of p.script) → (x : Commands)
        → lib.find (script_named i) ≡ Some x → is_among p.chain (script_named i) ≡ false
        → (n : ℕ) (f : Filing) (g : code.FlowState) → AreAlike (MarksEntries lib slot main (script_named i ∷ chain)) f g
        → Alike (MarksEntries lib slot main (script_named i ∷ chain)) n
        (ending_of_include (run c (inclusion_within c lib left (script_named i ∷ chain)) x f))
        (effect called c (call_flow own (number_of lib later (record {
          script = x;
          left = left;
          chain =
              script_named i ∷ p.chain;
        }))) g [])
    call_means left is i there x at out n f g r =
        let s = script_named i in
        let e : Procedure = record { script = x; left = left; chain = s ∷ p.chain } in
        let found = numbered lib later e (finds left is s e (named_once p.script i there) (entered_there lib left p.chain s x at out)) in
        let q = found.procedure in
        let known = means found.number q found.stands in
        let t = shared_tests lib q e found.shared in
        let lefts : q.left ≡ left = eqb-true q.left left t.1 in
        let script : q.script ≡ x = shared_script lib q e known.1 known.2 s p.chain refl at found.shared in
        let agreed : SameFor lib (suc (suc left)) p.script p.chain chain = subst (λ (m : ℕ). SameFor lib (suc m) p.script p.chain chain) is same in
        let inner : SameFor lib (suc left) x (s ∷ p.chain) (s ∷ chain) = inside_include lib (suc left) p.script x i p.chain chain there at agreed in
        let shares : SameFor lib 64 q.script q.chain (s ∷ p.chain) = same_reached lib q.script q.chain (s ∷ p.chain) t.2 t.3 in
        let both : SameFor lib (suc left) x q.chain (s ∷ chain) =
        λ u reached.
        shares u (subst (λ (y : Commands).
        reaches_within lib 64 y u ≡ true) (sym script) (reaches_more lib (suc left) 64 (omega (arith, few, is)) x u
        reached)) ∙ inner u reached in
        let agree : SameFor lib (suc q.left) q.script q.chain (s ∷ chain) =
        subst (λ (m : ℕ). SameFor lib (suc m) q.script q.chain (s ∷ chain)) (sym lefts) (subst (λ (y : Commands).
        SameFor lib (suc left) y q.chain (s ∷ chain)) (sym script) both) in
        let here = known.0 (s ∷ chain) agree (λ u h. or_right (same_script u s) (is_among chain u) (within u h)) n f g r in
        let Does : ℕ → Commands → Option ℕ
        → Type 0 = λ m y o. Alike (MarksEntries lib slot main (s ∷ chain)) n
        (ending_of_include (run c (inclusion_within c lib m (s ∷ chain)) y f))
        (effect called c (call_flow own o) g []) in
        subst (λ (o : Option ℕ). Does left x o) (sym found.number_is) (subst (λ (y : Commands).
        Does left y (Some found.number)) script (subst (λ (m : ℕ). Does m q.script (Some found.number)) lefts here))

    by_left : (left : ℕ) → p.left ≡ left → (i : Include) → IsIn i (includes_of p.script)
        → (n : ℕ) (f : Filing) (g : code.FlowState) → AreAlike (MarksEntries lib slot main chain) f g
        → Alike (MarksEntries lib slot main chain) n (inclusion_within c lib left chain i f)
        (effect called c (including_flow lib slot main p.chain
        (call_entry lib slot own later left p.chain (script_named i)) i) g [])
    by_left zero is i there n f g r =
        let enter : Commands → Flow = λ x. action (Fail NestingTooDeep) in
        let swap = chain_alike lib slot main p.chain chain enter i (λ y at. at_include lib p.left p.script y i p.chain chain there at same) in
        subst (λ (a : Flow). Alike (MarksEntries lib slot main chain) n (inclusion_within c lib zero chain i f) (effect called c a g [])) (sym swap)
        (including_alike called c lib slot count has main chain within (λ script f.
        Faults NestingTooDeep f) enter i (λ x at out n f g r. record { filing = g; related = r; exit = refl }) n f g
        r)
    by_left (suc left) is i there n f g r =
        let s = script_named i in
        let enter : Commands → Flow = λ x. call_entry lib slot own later (suc left) p.chain s x in
        let swap = chain_alike lib slot main p.chain chain enter i (λ y at. at_include lib p.left p.script y i p.chain chain there at same) in
        subst (λ (a : Flow).
        Alike (MarksEntries lib slot main chain) n (inclusion_within c lib (suc left) chain i f)
        (effect called c a g [])) (sym swap)
        (including_alike called c lib slot count has main chain within (λ script f.
        ending_of_include (run c (inclusion_within c lib left (s ∷ chain)) script (with_entry s f))) enter i
        (λ x at out n f g r.
        let now : code.FlowState = record g { marks = slice_set g.marks (slot s) true } in
        let free : is_among p.chain s ≡ false = at_include lib p.left p.script x i p.chain chain there at same ∙ out in
        let h = call_means left is i there x at free n (with_entry s f) now (entered_related called c lib slot count has main chain s x at f g r) in
        record {
          filing = h.filing;
          related =
              shrunk called c lib slot count has main chain s
              (filing_at (ending_of_include (run c (inclusion_within c lib left (s ∷ chain)) x (with_entry s f))))
              h.filing h.related;
          exit = h.exit;
        }) n f g r)

    calls_agree : AgreesAt called c (MarksEntries lib slot main chain) (calling_flow lib slot main own later p)
        (inclusion_within c lib p.left chain) (includes_of p.script)
    calls_agree i there n f g r = by_left p.left refl i there n f g r

    -- the code of the procedure
    pub procedure_means : (f : Filing) (g : code.FlowState) → AreAlike (MarksEntries lib slot main chain) f g
        → Alike (MarksEntries lib slot main chain) 0 (run c (inclusion_within c lib p.left chain) p.script f)
        (effect called c (script_flow (calling_flow lib slot main own later p) p.script) g [])
    procedure_means f g r =
        means_at called c (MarksEntries lib slot main chain) (calling_flow lib slot main own later p)
        (inclusion_within c lib p.left chain) 0 p.script calls_agree f g r
