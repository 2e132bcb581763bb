use Rattle.record_archive.specs.Archive.{empty_archive}
use Rattle.record_files.proofs.ArchiveLemmas.{keeps_both}
use Rattle.cli_files.proofs.archives.lay_files.Goals as goal

pub returns-then-keeps_archive : goal.returns-then-keeps_archive
returns-then-keeps_archive g c =
    let closed = c.close_store-files in
    record {
      clean = λ honest. c.in-Ok.ensures.clean (closed.ensures.clean honest);
      keeps = λ honest free.
          let a = record empty_archive { plan = c.args.plan } in
          let stands = c.in-Ok.ensures.stands (closed.ensures.clean honest) free in
          keeps_both g.D.Disk closed.result.1 closed.result.0 a (c.keeps_archive.ensures.kept c.if-keeps_archive.true)
          (closed.ensures.keeps honest a stands);
    }
