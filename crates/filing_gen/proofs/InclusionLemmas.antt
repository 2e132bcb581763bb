-- What the includes of a procedure come to, by what is found.
use Rattle.std.proofs.Common.{◌≡◌, ℕ, zero, suc, ◌<◌, List, ◌∷◌, Bool, true, false, Option, Some, None, length, refl, sym, ap, ◌∙◌}
use Rattle.sieve_meaning.specs.Program.{Include, Commands}
use Rattle.sieve_meaning.specs.Meaning.{ScriptName, script_named, is_among, Library}
use Rattle.sieve_meaning.specs.Procedures.{Procedure}
use Rattle.filing_flow.specs.Structure.{SetMark, Flow, action, sequence}
use Rattle.sieve_library.specs.Libraries.{Scripts, library_of}
use Rattle.filing_procedures.specs.Slots.{slots_of}
use Rattle.filing_procedures.specs.ProcedureCode.{number_of}
use Rattle.filing_gen.specs.IncludeCode.{is_passed, once_flow}
use Rattle.sieve_meaning.specs.declared.run_fault.RunFault.{RunFault}
use Rattle.filing_gen.specs.Levels.{Judgement, Passes, Fails, Enters, judgement_by, judgement, judgement_flow, judgement_weight}
use Rattle.filing_gen.specs.Procedures.{call_flow, call_entry, calling_flow, path_at, called_path}
use Rattle.filing_gen.specs.Numbers.{number_at, AreNumbers}
use Rattle.filing_gen.specs.Inclusions.{call_of, code_of_call, code_of, path_of_call, path_of, CallsOneOf}
use Rattle.filing_gen.specs.declared.callees.Inclusion.TheVariants.{Pass, Fault, Enter}
use Rattle.filing_gen.proofs.LevelLemmas.{flow_cases, weight_cases}
use Rattle.filing_gen.proofs.ProcedureTypes.{number_below}

-- a script that is entered is there
entered_is : (o : Option Commands) (passed active once : Bool) (x : Commands) → Enters x ≡ judgement_by o passed active once → o ≡ Some x
entered_is None true active once x h = absurd (cc h)
entered_is None false active once x h = absurd (cc h)
entered_is (Some y) passed true true x h = absurd (cc h)
entered_is (Some y) passed true false x h = absurd (cc h)
entered_is (Some y) passed false once x h = cc h

code_called : (own slot left : ℕ) (number : Option ℕ) → sequence (action (SetMark slot)) (call_flow own number)
    ≡ code_of_call own slot (call_of (suc left) number)
code_called own slot left None = refl
code_called own slot left (Some n) = refl

path_called : (paths : List ℕ) (left : ℕ) (number : Option ℕ) → path_at paths number ≡ path_of_call paths (call_of (suc left) number)
path_called paths left None = refl
path_called paths left (Some n) = refl

module _ (l : Scripts) (main : List ScriptName) (later : List Procedure) (p : Procedure) (i : Include) where
  abbrev lib : Library
  lib = library_of l

  abbrev s : ScriptName
  s = script_named i

  -- what the entry of a script adds to a path
  abbrev entry_path : (paths : List ℕ) → (left : ℕ) → Commands → ℕ
  entry_path paths zero x = 0
  entry_path paths (suc left) x = path_at paths (number_of lib later (record { script = x; left = left; chain = s ∷ p.chain }))

  flow_told : (own : ℕ) (j : Judgement) → j ≡ judgement lib main p.chain i
      → calling_flow lib (slots_of l) main own later p i
      ≡ judgement_flow j i.once (slots_of l s) (call_entry lib (slots_of l) own later p.left p.chain s)
  flow_told own j is =
      flow_cases (lib.find s) (is_passed main i) (is_among p.chain s) i.once (slots_of l s) (call_entry lib (slots_of l) own later p.left p.chain s)
      ∙ ap (λ (k : Judgement). judgement_flow k i.once (slots_of l s) (call_entry lib (slots_of l) own later p.left p.chain s)) (sym is)

  no_path : (j : Judgement) → 0 ≡ judgement_weight j (λ x. 0)
  no_path Passes = refl
  no_path (Fails fault) = refl
  no_path (Enters x) = refl

  path_told : (paths : List ℕ) (left : ℕ) (j : Judgement) → j ≡ judgement lib main p.chain i
      → called_path lib later paths left p.chain i ≡ judgement_weight j (entry_path paths left)
  path_told paths zero j is = no_path j
  path_told paths (suc left) j is =
      weight_cases (lib.find s) (is_passed main i) (is_among p.chain s) i.once (entry_path paths (suc left))
      ∙ ap (λ (k : Judgement). judgement_weight k (entry_path paths (suc left))) (sym is)

  -- where nothing is done
  module _ (is : Passes ≡ judgement lib main p.chain i) where
    pub pass_code : (own : ℕ) → calling_flow lib (slots_of l) main own later p i ≡ code_of own i.once Pass
    pass_code own = flow_told own Passes is

    pub pass_path : (paths : List ℕ) → called_path lib later paths p.left p.chain i ≡ path_of paths Pass
    pass_path paths = path_told paths p.left Passes is

  -- where the run ends
  module _ (fault : RunFault) (is : Fails fault ≡ judgement lib main p.chain i) where
    pub fault_code : (own : ℕ) → calling_flow lib (slots_of l) main own later p i ≡ code_of own i.once (Fault fault)
    fault_code own = flow_told own (Fails fault) is

    pub fault_path : (paths : List ℕ) → called_path lib later paths p.left p.chain i ≡ path_of paths (Fault fault)
    fault_path paths = path_told paths p.left (Fails fault) is

  -- where a script is entered
  module _ (numbers : List (Option ℕ)) (are : AreNumbers l later p numbers) (x : Commands) (is : Enters x
      ≡ judgement lib main p.chain i) (slot : ℕ) (at : slot ≡ slots_of l s) where
    abbrev number : Option ℕ
    number = number_at numbers slot

    there : lib.find s ≡ Some x
    there = entered_is (lib.find s) (is_passed main i) (is_among p.chain s) i.once x is

    abbrev entered : (left : ℕ) → Procedure
    entered left = record { script = x; left = left; chain = s ∷ p.chain }

    known : (left : ℕ) → p.left ≡ suc left → number ≡ number_of lib later (entered left)
    known left e = are slot left s x e there (sym at)

    entry_code : (own left : ℕ) → p.left ≡ left → call_entry lib (slots_of l) own later left p.chain s x ≡ code_of_call own slot (call_of left number)
    entry_code own zero e = refl
    entry_code own (suc left) e =
        ap (λ (n : ℕ). sequence (action (SetMark n)) (call_flow own (number_of lib later (entered left)))) (sym at)
        ∙ ap (λ (o : Option ℕ). sequence (action (SetMark slot)) (call_flow own o)) (sym (known left e))
        ∙ code_called own slot left number

    pub enter_code : (own : ℕ) → calling_flow lib (slots_of l) main own later p i ≡ code_of own i.once (Enter slot (call_of p.left number))
    enter_code own =
        flow_told own (Enters x) is
        ∙ ap (λ (n : ℕ). once_flow i.once n (call_entry lib (slots_of l) own later p.left p.chain s x)) (sym at)
        ∙ ap (λ (a : Flow). once_flow i.once slot a) (entry_code own p.left refl)

    path_by : (paths : List ℕ) (left : ℕ) → p.left ≡ left → entry_path paths left x ≡ path_of_call paths (call_of left number)
    path_by paths zero e = refl
    path_by paths (suc left) e = ap (λ (o : Option ℕ). path_at paths o) (sym (known left e)) ∙ path_called paths left number

    pub enter_path : (paths : List ℕ) → called_path lib later paths p.left p.chain i ≡ path_of paths (Enter slot (call_of p.left number))
    enter_path paths = path_told paths p.left (Enters x) is ∙ path_by paths p.left refl

    one_of : (left : ℕ) (o : Option ℕ) → ((n : ℕ) → o ≡ Some n → n < length later) → CallsOneOf (length later) (call_of (suc left) o)
    one_of left None h = tt
    one_of left (Some n) h = h n refl

    by_left : (left : ℕ) → p.left ≡ left → CallsOneOf (length later) (call_of left number)
    by_left zero e = tt
    by_left (suc left) e = one_of left number (λ n is. number_below lib later (entered left) n (sym (known left e) ∙ is))

    pub enter_within : CallsOneOf (length later) (call_of p.left number)
    enter_within = by_left p.left refl
