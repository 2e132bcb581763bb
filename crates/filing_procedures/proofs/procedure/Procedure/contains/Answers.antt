use Rattle.std.proofs.Common.{rules, tests, sym, ◌∙◌}
use Rattle.std.proofs.lemmas.Iterator.{YieldsList-from_slice}
use Rattle.std.proofs.lemmas.Iterator.Search.{any_from_yields_List}
use Rattle.sieve_meaning.specs.declared.scripts.ScriptName.{ScriptName}
use Rattle.sieve_meaning.specs.Meaning.{same_script}
use Rattle.sieve_meaning.specs.Scripts.{script_of}
use Rattle.filing_procedures.proofs.IncludedLemmas.{any_map}
use Rattle.filing_procedures.proofs.procedure.Procedure.contains.Goals as goal

pub returns : goal.returns
returns c =
    any_from_yields_List (λ (n : ScriptName). same_script (script_of c.args.script.now) (script_of n)) _ _ c.any.result
    c.any.ensures.ran (YieldsList-from_slice c.args.self.now.chain.items cc) (λ x b q k. search (rules, tests))
    ∙ sym (any_map (same_script (script_of c.args.script.now)) script_of c.args.self.now.chain.items)
