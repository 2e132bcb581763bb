use Rattle.sieve_evaluator.proofs.TruthLemmas.{header_answer}
use Rattle.sieve_evaluator.proofs.truth.is_header_true.Goals as goal

pub returns : goal.returns
returns c = header_answer c.args.case.now c.args.arguments.now c.in-Some.rest.now c.as_slice.result.now
    c.match_type.result c.comparator.result c.in-Some.names.now c.in-Some-next_string_list.keys.now _
    c.is_any_field.result c.as_slice.ensures.value c.in-Some.ensures c.in-Some-next_string_list.ensures
    c.match_type.ensures c.comparator.ensures c.is_any_field.ensures
