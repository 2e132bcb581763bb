use Rattle.sqlite.specs.WalFiles.{image_at}
use Rattle.record_files.proofs.OpeningLemmas.{free_opened}
use Rattle.cli_files.proofs.CallLemmas.{one}
use Rattle.cli_files.proofs.archives.fill_file.Goals as goal

pub returns-in-Ok-lay_files-clause-keeps : goal.returns-in-Ok-lay_files-clause-keeps
returns-in-Ok-lay_files-clause-keeps g c honest none =
    let opened = c.in-Ok.ensures in
    let laid = c.in-Ok-lay_files.ensures in
    let early = laid.clean honest in
    laid.keeps honest (free_opened c.in-Ok.conn (image_at g.S.Start) (opened.opened early) (opened.found early) none)

pub returns-in-Err-clause-calls : goal.returns-in-Err-clause-calls
returns-in-Err-clause-calls g c = one g.F.FileSystem.made _ _ _ c.open_store.ensures.made

pub returns-in-Ok-lay_files-clause-calls : goal.returns-in-Ok-lay_files-clause-calls
returns-in-Ok-lay_files-clause-calls g c = one g.F.FileSystem.made _ _ _ c.open_store.ensures.made

pub returns-in-Err-lay_files-clause-calls : goal.returns-in-Err-lay_files-clause-calls
returns-in-Err-lay_files-clause-calls g c = one g.F.FileSystem.made _ _ _ c.open_store.ensures.made
