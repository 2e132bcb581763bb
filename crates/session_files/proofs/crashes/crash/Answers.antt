use Rattle.std.proofs.Common.{◌∙◌, IsTrue, ap, sym, subst}
use Rattle.sqlite.specs.Held.{Held}
use Rattle.sqlite.specs.Files.{file_state, over_files}
use Rattle.sqlite_store.specs.declared.store.FileStore.{FileStore}
use Rattle.record_store.specs.declared.store.Store.{Store}
use Rattle.record_files.specs.Closing.{HoldsLeft}
use Rattle.session_files.proofs.SessionLemmas.{clean_alike, keeps_open, represents}
use Rattle.session_files.proofs.crashes.crash.Goals as goal

pub returns-clause-clean : goal.returns-clause-clean
returns-clause-clean g c honest =
    let OfStore : Store (FileStore g.row.D.Denot g.D.Disk) → Held (FileStore g.row.D.Denot g.D.Disk) = λ s. s.conn in
    clean_alike over_files _ _ (c.into_connection.ensures ∙ ap OfStore c.into_store.ensures.store) (c.leave.ensures.clean honest)

pub returns-clause-keeps : goal.returns-clause-keeps
returns-clause-keeps g c honest on s there image may =
    let OpenConn : Held (FileStore g.row.D.Denot g.D.Disk) → Type 0 = λ h. IsTrue (file_state h).is_open in
    let OpenStore : Store (FileStore g.row.D.Denot g.D.Disk) → Type 0 = λ s. IsTrue (file_state s.conn).is_open in
    let conn = c.into_connection.result in
    let same = c.into_connection.ensures in
    let still = subst OpenConn (sym same) (subst OpenStore (sym c.into_store.ensures.store) on) in
    let is = represents over_files c.into_store.result conn same s.office.archive (c.into_store.ensures.stands s there) in
    keeps_open conn s.office.archive is (c.leave.ensures.clean honest) image (c.leave.ensures.holds honest is.idle still image may)

pub returns-clause-leaves : goal.returns-clause-leaves
returns-clause-leaves g c honest image may =
    let OfConn : Held (FileStore g.row.D.Denot g.D.Disk) → Type 0 = λ h. HoldsLeft (file_state h) image in
    let OfStore : Store (FileStore g.row.D.Denot g.D.Disk) → Type 0 = λ s. HoldsLeft (file_state s.conn) image in
    subst OfStore c.into_store.ensures.store (subst OfConn c.into_connection.ensures (c.leave.ensures.leaves honest image may))
