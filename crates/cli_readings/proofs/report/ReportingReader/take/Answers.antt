use Rattle.std.proofs.Common.{refl, subst}
use Rattle.record_archive.specs.Archive.{Archive}
use Rattle.cli_page.specs.Seeing.{AddsRecord}
use Rattle.cli_readings.proofs.report.ReportingReader.take.Goals as goal

pub returns-in-Ok-clause-taken : goal.returns-in-Ok-clause-taken
returns-in-Ok-clause-taken g c = λ clean (a : Archive) s told.
    let plan = c.plan.ensures a (c.headers_of_due.ensures.reads.stands a s) in record {
      reports = (
        c.record_of.result,
        c.record_of.ensures,
        c.add.new.self,
        subst (λ p. AddsRecord p c.record_of.result c.args.self.now.report c.add.new.self) plan c.in-Ok.ensures.added,
        refl,
      );
      volume = refl;
    }
