use Rattle.record_ledger.specs.Ledgers.{keeper_of}
use Rattle.cli_changes.proofs.ReplacementLaws.{keeps_all, replaces}
use Rattle.cli_changes.proofs.SeriesLaws.{on_err}
use Rattle.cli_changes.proofs.plan.replace_plan.Goals as goal

pub returns-in_err-judge_replacement-clause-failed : goal.returns-in_err-judge_replacement-clause-failed
returns-in_err-judge_replacement-clause-failed g c = on_err c.from_residual.result _ c.judge_replacement.ensures

pub returns-clause-done : goal.returns-clause-done
returns-clause-done g c =
    replaces (keeper_of g.S.Store) c.args.archive.now c.judge_replacement.new.archive c.revise.new.self c.args.plan c.map_err.result
    c.revise.result c.map_err.ensures.variant c.revise.ensures.carries c.judge_replacement.ensures

pub returns-clause-failed : goal.returns-clause-failed
returns-clause-failed g c =
    keeps_all (keeper_of g.S.Store) c.args.archive.now c.judge_replacement.new.archive c.revise.new.self c.args.plan c.map_err.result
    c.revise.result c.map_err.ensures.variant c.revise.ensures.carries c.judge_replacement.ensures
