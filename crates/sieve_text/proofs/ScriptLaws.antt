-- What the parser's answer says of the text.
use Rattle.std.proofs.Common.{◌≡◌, ℕ, List, Result, Ok, Err, ap, sym, ◌∙◌}
use Rattle.std.specs.Prelude.{IfOk, IfErr}
use Rattle.sieve_syntax.specs.declared.token.Token.{Token}
use Rattle.sieve_syntax.specs.declared.tree.Script.{Script}
use Rattle.sieve_syntax.specs.Tree.{CommandTrees, commands_tokens}
use Rattle.sieve_syntax.specs.View.{tree_of}
use Rattle.sieve_text.specs.declared.fault.ScanRefusal.{ScanRefusal}
use Rattle.sieve_text.specs.declared.fault.ScanFault.{ScanFault}
use Rattle.sieve_text.specs.declared.fault.ScanFault.TheVariants as scan_faults
use Rattle.sieve_text.specs.declared.fault.TextRefusal.TheVariants as refusals
use Rattle.sieve_text.specs.declared.fault.TextFault.{TextFault}
use Rattle.sieve_text.specs.declared.fault.TextFault.TheVariants.{NoMemory, Refused}
use Rattle.sieve_text.specs.declared.parser.stop.Misfit.{Misfit}
use Rattle.sieve_text.specs.declared.parser.stop.Misfit.TheVariants.{Syntax, Nesting}
use Rattle.sieve_text.specs.Tokens.{IsScan, IsFaulty, FaultsBy}
use Rattle.sieve_text.specs.Grammar.{kinds, IsDeep, Spells, IsScript, AnswersTree, AnswersRefusal, Explains, text_fault_of}
use Rattle.sieve_text.specs.Reading.{script_at, GivesScript}
use Rattle.sieve_text.proofs.ScanLemmas.{one_scan, no_both, one_fault}
use Rattle.sieve_text.proofs.Spelled.{ok_is}
use Rattle.sieve_text.proofs.TreeLaws.{script_again, script_nests, script_grammar, script_shallow}

-- the tokens that spell a tree are those that were scanned
spelled : (script : List ℕ) (ts : List Token) (t : CommandTrees) → IsScan script ts → Spells script t → kinds ts ≡ commands_tokens t
spelled script ts t h s = ap kinds (one_scan script ts s.0 h s.1) ∙ s.2

-- what is read of the tokens of a tree
read_again : (script : List ℕ) (ts : List Token) (t : CommandTrees) → IsScan script ts → IsScript script t → script_at 32 32 (kinds ts) ≡ Ok t
read_again script ts t h s = ap (script_at 32 32) (spelled script ts t h s.0) ∙ script_again t 32 32 s.1.0 s.1.1

read_nests : (script : List ℕ) (ts : List Token) (t : CommandTrees) → IsScan script ts → Spells script t → IsDeep t
    → script_at 32 32 (kinds ts) ≡ Err Nesting
read_nests script ts t h s d = ap (script_at 32 32) (spelled script ts t h s) ∙ script_nests t d

read_grammar : (script : List ℕ) (ts : List Token) (t : CommandTrees) → IsScan script ts → Spells script t
    → script_at 32 32 (kinds ts) ≡ Err Syntax → ⊥
read_grammar script ts t h s e = script_grammar t 32 32 (sym (ap (script_at 32 32) (spelled script ts t h s)) ∙ e)

ok_err : {A : Type 0} (x : A) (m : Misfit) (r : Result A Misfit) → r ≡ Ok x → r ≡ Err m → ⊥
ok_err {A} x m r e f = let g : ◌≡◌ {A = Result A Misfit} (Ok x) (Err m) = sym e ∙ f in cc

pub script_found : (script : List ℕ) (ts : List Token) (r : Result Script TextFault) → IsScan script ts
    → GivesScript r (script_at 32 32 (kinds ts)) → IfOk r (λ s. IsScript script (tree_of s))
script_found script ts (Ok s) h g = let k = script_shallow (kinds ts) (tree_of s) g in ((ts, h, k.0), k.1)
script_found script ts (Err e) h g = tt

pub script_only : (script : List ℕ) (ts : List Token) (r : Result Script TextFault) → IsScan script ts
    → GivesScript r (script_at 32 32 (kinds ts)) → (t : CommandTrees) → IsScript script t → AnswersTree t r
script_only script ts (Ok s) h g t i = ok_is (tree_of s) t (sym g ∙ read_again script ts t h i)
script_only script ts (Err NoMemory) h g t i = tt
script_only script ts (Err (Refused (refusals.Scan r) at)) h g t i = g
script_only script ts (Err (Refused refusals.Syntax at)) h g t i = ok_err t Syntax (script_at 32 32 (kinds ts)) (read_again script ts t h i) g
script_only script ts (Err (Refused refusals.Nesting at)) h g t i = ok_err t Nesting (script_at 32 32 (kinds ts)) (read_again script ts t h i) g

pub script_deep : (script : List ℕ) (ts : List Token) (r : Result Script TextFault) → IsScan script ts
    → GivesScript r (script_at 32 32 (kinds ts)) → (t : CommandTrees) → Spells script t → IsDeep t
    → AnswersRefusal refusals.Nesting r
script_deep script ts (Ok s) h g t i d = ok_err (tree_of s) Nesting (script_at 32 32 (kinds ts)) g (read_nests script ts t h i d)
script_deep script ts (Err NoMemory) h g t i d = tt
script_deep script ts (Err (Refused (refusals.Scan r) at)) h g t i d = absurd g
script_deep script ts (Err (Refused refusals.Syntax at)) h g t i d = absurd (read_grammar script ts t h i g)
script_deep script ts (Err (Refused refusals.Nesting at)) h g t i d = λ _. refusals.Nesting

pub script_faulty : (script : List ℕ) (ts : List Token) (r : Result Script TextFault) → IsScan script ts
    → (refusal : ScanRefusal) → IsFaulty script refusal → AnswersRefusal (refusals.Scan refusal) r
script_faulty script ts r h refusal f = absurd (no_both script ts refusal h f)

pub script_explained : (script : List ℕ) (ts : List Token) (r : Result Script TextFault) → IsScan script ts
    → GivesScript r (script_at 32 32 (kinds ts)) → IfErr r (λ e. Explains script e)
script_explained script ts (Ok s) h g = tt
script_explained script ts (Err NoMemory) h g = tt
script_explained script ts (Err (Refused (refusals.Scan r) at)) h g = absurd g
script_explained script ts (Err (Refused refusals.Syntax at)) h g = ((ts, h), λ t i. read_grammar script ts t h i g)
script_explained script ts (Err (Refused refusals.Nesting at)) h g =
    ((ts, h), λ t i. ok_err t Nesting (script_at 32 32 (kinds ts)) (read_again script ts t h i) g)

-- where the scanner refuses
pub fault_only : (script : List ℕ) (e : ScanFault) → FaultsBy script e → (t : CommandTrees) → IsScript script t
    → AnswersTree t (Err (text_fault_of e))
fault_only script scan_faults.NoMemory f t i = tt
fault_only script (scan_faults.Refused r at) f t i = no_both script i.0.0 r i.0.1 f

pub fault_deep : (script : List ℕ) (e : ScanFault) → FaultsBy script e → (t : CommandTrees) → Spells script t
    → AnswersRefusal refusals.Nesting (Err (text_fault_of e))
fault_deep script scan_faults.NoMemory f t i = tt
fault_deep script (scan_faults.Refused r at) f t i = absurd (no_both script i.0 r i.1 f)

pub fault_faulty : (script : List ℕ) (e : ScanFault) → FaultsBy script e → (r : ScanRefusal) → IsFaulty script r
    → AnswersRefusal (refusals.Scan r) (Err (text_fault_of e))
fault_faulty script scan_faults.NoMemory f r g = tt
fault_faulty script (scan_faults.Refused s at) f r g = ap refusals.Scan (one_fault script s r f g)
