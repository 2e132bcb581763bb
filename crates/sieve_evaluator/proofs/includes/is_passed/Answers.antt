use Rattle.std.proofs.Common.{◌∙◌}
use Rattle.sieve_meaning.specs.Scripts.{script_of}
use Rattle.sieve_evaluator.proofs.IncludeLemmas.{among_names}
use Rattle.sieve_evaluator.proofs.includes.is_passed.Goals as goal

pub returns-then-include : goal.returns-then-include
returns-then-include c = rw c.if-include.true (c.was_entered.ensures ∙ among_names c.args.entered.now.items (script_of c.args.include.now.script))
