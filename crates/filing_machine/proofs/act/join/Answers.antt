use Rattle.std.proofs.Common.{ap}
use Rattle.filing_machine.proofs.PlaceLemmas.{in_case-joined}
use Rattle.filing_machine.proofs.act.join.Goals as goal

pub returns-clause-in_case : goal.returns-clause-in_case
returns-clause-in_case g c =
    in_case-joined (g.C.Case.facts c.args.case.now) c.args.at.now.stack c.pop_fields-second.new.self
    c.pop_fields-first.new.self c.push_on.new.at.stack c.pop_fields-first.result c.pop_fields-second.result
    c.append.new.self c.pop_fields-second.ensures c.pop_fields-first.ensures c.requires.in_case
    c.in_default.ensures.ok (ap (λ s. s.stack) c.push_on.ensures.at)
