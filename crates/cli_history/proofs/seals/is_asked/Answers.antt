use Rattle.std.proofs.Common.{◌∙◌, ap, arith, subst, sym}
use Rattle.record_reads.specs.Events.{event_of}
use Rattle.cli_history.specs.OneSeal.{IsEnoughFor, begins_for}
use Rattle.cli_history.proofs.OneSealLemmas.{passed_none}
use Rattle.cli_history.proofs.seals.is_asked.Goals as goal

pub returns-in-Some-clause-passed : goal.returns-in-Some-clause-passed
returns-in-Some-clause-passed c = λ message enough other.
    let deeds = c.in-Some.deeds.now in
    let line = ap (begins_for deeds) c.as_slice.ensures.value in
    passed_none message deeds (event_of c.args.row.now) (omega arith) (subst (IsEnoughFor message) c.in-Some.is enough)
    (sym (c.are_those_of.ensures ∙ line) ∙ other)
