use Rattle.std.proofs.Common.{arith}
use Rattle.cli_files.proofs.archives.lay_archive.Goals as goal

pub returns-in-Ok-revise-clause-clean : goal.returns-in-Ok-revise-clause-clean
returns-in-Ok-revise-clause-clean g c clean = omega (arith, c.in-Ok.ensures.crash.clean, c.in-Ok-revise.ensures.behaves.falls clean)
