use Rattle.record_archive.specs.Refiling.{refile}
use Rattle.record_ledger.specs.Ledgers.{keeper_of}
use Rattle.cli_changes.proofs.SeriesLaws.{done_tried, failed_stays, on_err, told_tried}
use Rattle.cli_changes.proofs.refile.RefilingToRecordChangeStoreLedger.change_one.Goals as goal

pub returns-in-Ok-clause-tried : goal.returns-in-Ok-clause-tried
returns-in-Ok-clause-tried g c =
    done_tried (keeper_of g.S.Store) c.args.ledger.now c.refile.new.self (λ a. refile a c.args.number c.args.self.now.to.now) c.refile.result _
    c.in-Ok.is c.refile.ensures.carries

pub returns-in-Err-clause-tried : goal.returns-in-Err-clause-tried
returns-in-Err-clause-tried g c =
    told_tried (keeper_of g.S.Store) c.args.ledger.now c.refile.new.self (λ a. refile a c.args.number c.args.self.now.to.now) c.refile.result
    c.in-Err.fault c.refusal_told.result c.in-Err.is c.refile.ensures.carries c.refusal_told.ensures.undone c.refusal_told.ensures.refused

pub returns-in-Err-clause-failed : goal.returns-in-Err-clause-failed
returns-in-Err-clause-failed g c =
    on_err c.refusal_told.result _ (failed_stays (keeper_of g.S.Store) c.args.ledger.now c.refile.new.self
    (λ a. refile a c.args.number c.args.self.now.to.now) c.refile.result c.in-Err.fault c.in-Err.is c.refile.ensures.carries)
