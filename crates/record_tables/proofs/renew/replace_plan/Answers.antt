use Rattle.sqlite.specs.Held.{state}
use Rattle.sqlite.proofs.StateLemmas.{survives_weaker}
use Rattle.record_tables.specs.Changes.{Always}
use Rattle.record_tables.proofs.CompanionLemmas.{turns_both}
use Rattle.record_tables.proofs.Loops.{on_ok}
use Rattle.record_tables.proofs.renew.replace_plan.Goals as goal

pub returns-clause-ok : goal.returns-clause-ok
returns-clause-ok g c clean =
    on_ok c.replace_plan_with.result (λ made. (turns_both _ _ Always _ _ _ made).turns tt) (c.replace_plan_with.ensures.ok clean)

pub returns-clause-crash : goal.returns-clause-crash
returns-clause-crash g c =
    survives_weaker (state g.S.Store c.args.conn.now) (state g.S.Store c.replace_plan_with.new.conn) _ _
    (λ clean trees left. (left.0, (turns_both _ _ Always _ _ _ left.1).turns tt, left.2)) c.replace_plan_with.ensures.crash
