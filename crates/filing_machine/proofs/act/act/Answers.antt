use Rattle.std.proofs.lemmas.Result.{IfOk-weaker}
use Rattle.filing_machine.proofs.CallLemmas.{came_back}
use Rattle.filing_machine.proofs.act.act.Goals as goal

pub returns-in-Return-clause-does : goal.returns-in-Return-clause-does
returns-in-Return-clause-does g c =
    let facts = g.C.Case.facts c.args.case.now in
    let does = IfOk-weaker c.go_back.result _ _ (λ end h.
    came_back c.args.image.now facts c.args.at.now c.go_back.new.at end c.go_back.ensures.bare h)
    (c.go_back.ensures.does facts) in
    rw c.in-Return.is does
