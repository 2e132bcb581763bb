use Rattle.std.proofs.Common.{subst}
use Rattle.record_archive.specs.Calls.{CarriesOut, Quietly}
use Rattle.record_ledger.specs.Ledgers.{keeper_of}
use Rattle.cli_changes.specs.Holdings.{hold_command}
use Rattle.cli_changes.proofs.SeriesLaws.{done_tried, failed_stays, on_err, told_tried}
use Rattle.cli_changes.proofs.holds.HoldChangeRecordChangeStoreLedger.change_one.Goals as goal

pub returns-in-Ok-clause-tried : goal.returns-in-Ok-clause-tried
returns-in-Ok-clause-tried g c =
    let out = subst (λ n. CarriesOut (keeper_of g.S.Store) c.args.archive.now c.change_one.new.archive
    (hold_command c.args.self.now.change n c.args.number) Quietly c.change_one.result) c.as_bytes.ensures.value c.change_one.ensures in
    done_tried (keeper_of g.S.Store) c.args.archive.now c.change_one.new.archive
    (hold_command c.args.self.now.change c.args.self.now.name.now c.args.number) c.change_one.result _ c.in-Ok.is out

pub returns-in-Err-clause-tried : goal.returns-in-Err-clause-tried
returns-in-Err-clause-tried g c =
    let out = subst (λ n. CarriesOut (keeper_of g.S.Store) c.args.archive.now c.change_one.new.archive
    (hold_command c.args.self.now.change n c.args.number) Quietly c.change_one.result) c.as_bytes.ensures.value c.change_one.ensures in
    told_tried (keeper_of g.S.Store) c.args.archive.now c.change_one.new.archive
    (hold_command c.args.self.now.change c.args.self.now.name.now c.args.number) c.change_one.result c.in-Err.fault c.refusal_told.result
    c.in-Err.is out c.refusal_told.ensures.undone c.refusal_told.ensures.refused

pub returns-in-Err-clause-failed : goal.returns-in-Err-clause-failed
returns-in-Err-clause-failed g c =
    on_err c.refusal_told.result _ (failed_stays (keeper_of g.S.Store) c.args.archive.now c.change_one.new.archive
    (hold_command c.args.self.now.change c.as_bytes.result.now c.args.number) c.change_one.result c.in-Err.fault c.in-Err.is c.change_one.ensures)
