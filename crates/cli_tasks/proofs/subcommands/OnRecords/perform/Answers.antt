use Rattle.std.proofs.Common.{subst, sym}
use Rattle.std.proofs.lemmas.Result.{on_ok_weaker}
use Rattle.cli_tasks.specs.Commands.{ReadsBy}
use Rattle.cli_tasks.specs.declared.subcommands.Reading.{Reading}
use Rattle.cli_tasks.proofs.ReadingLaws.{day_as_typed}
use Rattle.cli_tasks.proofs.subcommands.OnRecords.perform.Goals as goal

pub returns-in-Export : goal.returns-in-Export
returns-in-Export g c =
    let it = c.args.self.now in
    on_ok_weaker c.export_to.result (λ exported.
    subst (λ (way : Reading). ReadsBy g.S.Store c.args.archive.now c.export_to.new.archive.conn way it.choice it.questions) (sym c.in-Export.is)
    exported) c.export_to.ensures.exported

pub returns-in_ok-day-in-Report : goal.returns-in_ok-day-in-Report
returns-in_ok-day-in-Report g c =
    let it = c.args.self.now in
    on_ok_weaker c.write_report.result (λ reported.
    subst (λ (way : Reading). ReadsBy g.S.Store c.args.archive.now c.write_report.new.archive.conn way it.choice it.questions) (sym c.in-Report.is) (
      c.in_ok-day-in-Report.day,
      day_as_typed c.in-Report.day c.day_or_today.result c.in_ok-day-in-Report.day c.day_or_today.ensures c.in_ok-day-in-Report.was,
      reported,
    ))
    c.write_report.ensures
