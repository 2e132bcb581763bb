use Rattle.std.proofs.Common.{subst}
use Rattle.std.proofs.lemmas.Result.{on_ok_weaker}
use Rattle.record_archive.specs.Archive.{Archive}
use Rattle.cli_console.specs.Headers.{IsToldBeside}
use Rattle.cli_readings.proofs.list.ListTextReader.take.Goals as goal

pub returns-then-not-self-clause-taken : goal.returns-then-not-self-clause-taken
returns-then-not-self-clause-taken g c =
    on_ok_weaker c.add.result (λ added clean (a : Archive) s told. added a c.if-not-self.true) c.add.ensures

pub returns-in-Some-clause-taken : goal.returns-in-Some-clause-taken
returns-in-Some-clause-taken g c =
    on_ok_weaker c.add-in-Some.result (λ added clean (a : Archive) s told.
    added a (c.if-not-self.false, subst (λ h. IsToldBeside a c.args.entry.now h) c.in-Some.is told)) c.add-in-Some.ensures

pub returns-in-None-clause-taken : goal.returns-in-None-clause-taken
returns-in-None-clause-taken g c =
    on_ok_weaker c.add_read.result (λ added clean (a : Archive) s told. added clean a s) c.add_read.ensures.added
