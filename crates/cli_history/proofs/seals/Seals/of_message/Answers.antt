use Rattle.std.proofs.Common.{ℕ, List}
use Rattle.record_archive.specs.Archive.{Archive}
use Rattle.cli_history.proofs.seals.Seals.of_message.Goals as goal

pub returns-clause-seal : goal.returns-clause-seal
returns-clause-seal g c = λ clean (a : Archive) (ls : List (List ℕ)) stands keeps.
    c.read.ensures.seal c.args.message c.in_ok-deeds.ensures clean a ls stands keeps
