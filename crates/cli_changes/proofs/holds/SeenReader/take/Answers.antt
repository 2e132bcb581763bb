use Rattle.record_archive.specs.Archive.{Archive}
use Rattle.cli_changes.proofs.LookingLaws.{seen_one}
use Rattle.cli_changes.proofs.holds.SeenReader.take.Goals as goal

pub returns-clause-taken : goal.returns-clause-taken
returns-clause-taken g c = λ clean (a : Archive) s told. seen_one c.args.self.now.is_any
