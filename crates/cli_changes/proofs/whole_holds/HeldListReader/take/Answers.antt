use Rattle.record_archive.specs.Archive.{Archive}
use Rattle.cli_changes.proofs.whole_holds.HeldListReader.take.Goals as goal

pub returns-clause-taken : goal.returns-clause-taken
returns-clause-taken g c = λ clean (a : Archive) s told. c.in_ok-push.ensures.items
