use Rattle.std.proofs.Common.{IsTrue, subst, sym}
use Rattle.sqlite.specs.Files.{file_state}
use Rattle.record_files.specs.Closing.{HasCause, HoldsLeft, HoldsNow}
use Rattle.record_files.specs.Files.{KeepsAt}
use Rattle.record_files.proofs.ArchiveLemmas.{holds_alike, idle_alike, keeps_now}
use Rattle.cli_files.proofs.opening.close_store.Goals as goal

pub returns-clause-keeps : goal.returns-clause-keeps
returns-clause-keeps g c honest a stands image may =
    let kept = c.args.store.conn in
    let conn = c.into_connection.result in
    let same = c.into_connection.ensures in
    holds_alike c.close.result.1 (HoldsNow (file_state conn)) (KeepsAt a)
    (keeps_now kept conn same a stands.archive stands.rows (c.close.ensures.clean honest)) image
    (c.close.ensures.holds honest (idle_alike kept conn same stands.idle) image may)

pub returns-clause-leaves : goal.returns-clause-leaves
returns-clause-leaves g c honest image may =
    let P : _ → Type 0 = λ conn. HoldsLeft (file_state conn) image in
    subst P c.into_connection.ensures (c.close.ensures.leaves honest image may)

pub returns-clause-cause : goal.returns-clause-cause
returns-clause-cause g c honest on =
    let P : _ → Type 0 = λ conn. HasCause g.D.Disk (file_state conn).faults c.close.result.0 c.close.result.1 in
    let Q : _ → Type 0 = λ conn. IsTrue (file_state conn).is_open in
    let same = c.into_connection.ensures in
    subst P same (c.close.ensures.cause honest (subst Q (sym same) on))
