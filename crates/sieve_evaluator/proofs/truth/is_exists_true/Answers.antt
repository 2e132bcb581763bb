use Rattle.sieve_evaluator.proofs.TruthLemmas.{exists_answer}
use Rattle.sieve_evaluator.proofs.truth.is_exists_true.Goals as goal

pub returns-in-Some : goal.returns-in-Some
returns-in-Some c =
    exists_answer c.args.case.now c.args.arguments.now c.as_slice.result.now c.in-Some.names.now _
    c.has_listed_fields.result c.as_slice.ensures.value c.in-Some.ensures c.has_listed_fields.ensures
