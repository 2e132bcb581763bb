use Rattle.std.proofs.Common.{◌≡◌, sym, subst, inr}
use Rattle.sqlite_wal.specs.Recovery.{Image, RecoversAs}
use Rattle.sqlite.specs.Files.{image_of}
use Rattle.record_files.specs.Copying.{AreReadable, without_log}
use Rattle.record_files.proofs.copying.copy_log.Goals as goal

pub returns-in-Ok-2-clause-alone : goal.returns-in-Ok-2-clause-alone
returns-in-Ok-2-clause-alone g c honest size are copied =
    let read : Image = record { log = g.D.Disk.seen c.len.new.self; db = g.D.Disk.seen c.args.files.db } in
    let alike : read ≡ image_of g.D.Disk c.args.files = λ i. record { log = c.len.ensures.seen i; db = g.D.Disk.seen c.args.files.db } in
    inr (λ left may. subst (λ i. RecoversAs size i (without_log left)) alike
    (c.copy_frames.ensures.alone honest size (subst (λ i. AreReadable i size) (sym alike) are) copied left may))
