-- Includes, in the order in which they are judged.
use Rattle.std.proofs.Common.{◌≡◌, ℕ, zero, suc, List, ◌∷◌, Bool, true, false, ◌&&◌, refl, sym, ap, ◌∙◌, map}
use Rattle.std.specs.Prelude.{Option, Some}
use Rattle.std.specs.List.{list_any}
use Rattle.sieve_meaning.specs.declared.run_fault.RunFault.TheVariants.{RecursiveInclude}
use Rattle.sieve_meaning.specs.Case.{Facts}
use Rattle.sieve_meaning.specs.Program.{Include, Commands}
use Rattle.sieve_meaning.specs.Meaning.{ScriptName, script_named, same_script, is_among, Library, inclusion, inclusion_within, unless_missing}
use Rattle.sieve_meaning.specs.Meaning.{unless_active, unless_entered, with_entry, ending_of_include}
use Rattle.sieve_meaning.specs.Meaning as meaning
use Rattle.sieve_syntax.specs.Tree.{CommandTrees}
use Rattle.sieve_meaning.specs.Reading.{program_of}
use Rattle.sieve_evaluator.specs.Runs.{entry_ending, runs_from, filing_of}
use Rattle.sieve_meaning.specs.Scripts.{script_of}
use Rattle.sieve_meaning.specs.declared.scripts.ScriptName as code
use Rattle.sieve_evaluator.specs.declared.filing.Filing as kept
use Rattle.sieve_evaluator.proofs.TruthLemmas.{list_any-map}

-- whether a script is among the names of the code
pub among_names : (names : List code.ScriptName) (s : ScriptName)
    → list_any (λ x. same_script s (script_of x)) names ≡ is_among (map script_of names) s
among_names names s = sym (list_any-map (same_script s) script_of names)

-- what the code answers for a name that is looked for
pub among_told : (names : List code.ScriptName) (s : ScriptName) (told is : Bool)
    → told ≡ list_any (λ other. same_script s (script_of other)) names → told ≡ is
    → is_among (map script_of names) s ≡ is
among_told names s told is tells at = sym (among_names names s) ∙ sym tells ∙ at

-- what it answers for an include that is not passed over
pub not_passed : (once : Bool) (names entry_ending : List code.ScriptName) (s : ScriptName) (told : Bool)
    → names ≡ entry_ending → told ≡ (once && is_among (map script_of names) s) → told ≡ false
    → (once && is_among (map script_of entry_ending) s) ≡ false
not_passed once names entry_ending s told same tells is = rw (← same) (sym tells ∙ is)

-- the judgement, and then the entry
pub included_is : (facts : Facts) (lib : Library) (left : ℕ) (chain : List ScriptName) (i : Include)
    (f : meaning.Filing)
    → inclusion_within facts lib left chain i f ≡ inclusion lib chain (entry_ending facts lib left chain i) i f
included_is facts lib zero chain i f = refl
included_is facts lib (suc left) chain i f = refl

-- an include that is not passed over is judged by what is found
judged : (lib : Library) (chain : List ScriptName) (enter : Commands → meaning.Filing
    → meaning.Ending) (i : Include) (f : meaning.Filing) (found : Option Commands)
    → (i.once && is_among f.entered (script_named i)) ≡ false → lib.find (script_named i) ≡ found
    → unless_missing found i.optional (λ script. unless_active (is_among chain (script_named i)) (enter script)) f
    ≡ inclusion lib chain enter i f
judged lib chain enter i f found once is =
    sym (ap (λ b.
    unless_entered b (unless_missing (lib.find (script_named i)) i.optional (λ script.
    unless_active (is_among chain (script_named i)) (enter script))) f) once
    ∙ ap (λ x. unless_missing x i.optional (λ script.
    unless_active (is_among chain (script_named i)) (enter script)) f) is)

pub included_active : (facts : Facts) (lib : Library) (left : ℕ) (chain : List ScriptName) (i : Include)
    (f : meaning.Filing) (script : Commands) → (i.once && is_among f.entered (script_named i)) ≡ false
    → lib.find (script_named i) ≡ Some script → is_among chain (script_named i) ≡ true
    → meaning.Faults RecursiveInclude f ≡ inclusion_within facts lib left chain i f
included_active facts lib left chain i f script once is active =
    sym (ap (λ b. unless_active b (entry_ending facts lib left chain i script) f) active)
    ∙ judged lib chain (entry_ending facts lib left chain i) i f (Some script) once is
    ∙ sym (included_is facts lib left chain i f)

pub included_entered : (facts : Facts) (lib : Library) (left : ℕ) (chain : List ScriptName) (i : Include)
    (f : meaning.Filing) (script : Commands) (e : meaning.Ending)
    → (i.once && is_among f.entered (script_named i)) ≡ false → lib.find (script_named i) ≡ Some script
    → is_among chain (script_named i) ≡ false → e ≡ entry_ending facts lib left chain i script f
    → e ≡ inclusion_within facts lib left chain i f
included_entered facts lib left chain i f script e once is active ran =
    ran ∙ sym (ap (λ b. unless_active b (entry_ending facts lib left chain i script) f) active)
    ∙ judged lib chain (entry_ending facts lib left chain i) i f (Some script) once is
    ∙ sym (included_is facts lib left chain i f)

-- the entered script comes before the others
pub filing_entered : (f g : kept.Filing) (s : code.ScriptName) → g.filed ≡ f.filed → g.kept ≡ f.kept
    → g.cancelled ≡ f.cancelled → g.entered.items ≡ s ∷ f.entered.items
    → filing_of g ≡ with_entry (script_of s) (filing_of f)
filing_entered f g s filed is_kept cancelled is = rw (filed, is_kept, cancelled, is) refl

-- the run of an entered script
pub entered_runs : (facts : Facts) (lib : Library) (left : ℕ) (chain inner : List ScriptName) (i : Include)
    (tree : CommandTrees) (f g : meaning.Filing) (e x : meaning.Ending) → inner ≡ script_named i ∷ chain
    → g ≡ with_entry (script_named i) f → e ≡ runs_from facts (inclusion_within facts lib left inner) false tree g
    → x ≡ ending_of_include e → x ≡ entry_ending facts lib (suc left) chain i (program_of tree) f
unfolding runs_from
entered_runs facts lib left chain inner i tree f g e x active begun ran is = is ∙ ap (λ y. ending_of_include y) (rw (active, begun) at ran)
