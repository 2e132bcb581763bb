-- What a session over a store leads to.
use Rattle.std.specs.Prelude.{◌≡◌, ◌<◌, ℕ, false, List, Result, Ok, Err, IsTrue}
use Rattle.sqlite_disk.specs.declared.Disk.{Ghosts}
use Rattle.sqlite.specs.Recovery.{Image}
use Rattle.sqlite.specs.Tree.{Trees}
use Rattle.sqlite.specs.State.{HasCleanDisk}
use Rattle.sqlite.specs.Store.{Ghosts as StoreGhosts}
use Rattle.sqlite.specs.Held.{Held, state}
use Rattle.sqlite.specs.WalFiles.{outcomes}
use Rattle.record_archive.specs.Archive.{Archive, IsArchive}
use Rattle.record_adoption.specs.Keeping.{StoresArchive}
use Rattle.record_store.specs.Stores.{TreesKeep}
use Rattle.desk_commands.specs.Standing.{Standing, Step, opening}
use Rattle.session_protocol.specs.Crashes.{IsLeftOf}
use Rattle.session_protocol.specs.Done.{HasDone, Hears, Says}
use Rattle.session_protocol.specs.Session.{Session, IsServed, IsAnswered, IsCut, session_in}
use Rattle.session_protocol.specs.declared.session.ServeFault.{ServeFault}
use Rattle.session_protocol.specs.declared.session.ServeFault.TheVariants.{Read, Write}
use Rattle.record_files.specs.Files.{KeepsAt, KeepsFiles}
use Rattle.session_files.specs.declared.session.EndedSession.{EndedSession}

-- These octets were written by a session that ended in this way, and this is the state after it. Where it ended well,
-- they are the answers to all commands, and the ending. After a read fault they are the answers to the commands that
-- were done, and after a write fault these but for a rest of the last one, or of the ending.
abbrev pub IsTold : Result (Unit {0}) ServeFault → Session → (old written : List ℕ) → Standing → Standing → Type 0
IsTold (Ok u) session old written s new = IsServed Step session s old written new
IsTold (Err Read) session old written s new = IsAnswered Step session s old written new
IsTold (Err Write) session old written s new = IsCut Step session s old written new

-- Commands were done, one after the other, and this is the state after them. Where the source knows its octets, they
-- are those of the session, or after a fault the first of them; where the sink knows its octets, their answers were
-- written.
abbrev pub IsDone : (hears says : Type 0) → Result (Unit {0}) ServeFault → (left old written : List ℕ) → Standing →
    Standing → Type 0
IsDone hears says result left old written s new = HasDone Step (λ items. hears → Hears result (session_in left) items)
    (λ answers. says → Says result old answers written) s new

-- no transaction is open, and while the disk is clean and no fault has shut the connection, its database stores the archive
pub record Represents {S : Type 0} (g : StoreGhosts S) (conn : Held S) (a : Archive) : Type 0 where
  pub idle : conn.in_transaction ≡ false
  pub archive : IsArchive a
  pub rows : HasCleanDisk (state g conn) → IsTrue (state g conn).is_open → StoresArchive (state g conn).now a

-- from an archive, the session leads in this way to a state whose archive the connection stores
pub record EndsAt {S : Type 0} (g : StoreGhosts S) (conn : Held S) (a : Archive) (Reaches : Standing → Standing → Type 0) : Type 0 where
  pub to : Standing
  pub reached : Reaches (opening a) to
  pub stored : Represents g conn to.office.archive

-- From an archive, commands were done. Whatever a crash may leave of the database keeps the archive after the first of them, by
-- the answers that were given to them, or after one more, which a fault may have cut short. The connection is shut only where
-- the disk has failed.
pub record EndsBySome {S : Type 0} (g : StoreGhosts S) (conn : Held S) (a : Archive) (hears says : Type 0)
    (ended : Result (Unit {0}) ServeFault) (left old written : List ℕ) : Type 0 where
  pub to : Standing
  pub reached : IsDone hears says ended left old written (opening a) to
  pub kept : (trees : Trees) → (state g conn).may_leave trees → IsLeftOf TreesKeep trees (opening a) reached.items reached.answers
  pub shut : (state g conn).is_open ≡ false → 0 < (state g conn).faults

-- from an archive, the session leads in this way to a state whose archive the files keep
pub record LeadsTo {D : Type 0} (g : Ghosts D) (ended : EndedSession D) (a : Archive)
    (Reaches : Standing → Standing → Type 0) : Type 0 where
  pub to : Standing
  pub reached : Reaches (opening a) to
  pub kept : KeepsFiles g ended.closing ended.files to.office.archive

-- From an archive, commands were done. However the disk has failed since, whatever a crash may leave of the files keeps the
-- archive after the first of the commands, by the answers that were given to them, or after one more, which a fault may
-- have cut short. By their answers, the archive has carried out none but the first.
pub record LeavesSome {D : Type 0} (g : Ghosts D) (ended : EndedSession D) (a : Archive) (hears says : Type 0)
    (left old written : List ℕ) : Type 0 where
  pub to : Standing
  pub reached : IsDone hears says ended.session left old written (opening a) to
  pub kept : (image : Image) → outcomes g ended.files.log ended.files.db image
      → ∥ IsLeftOf (λ i b. KeepsAt b i) image (opening a) reached.items reached.answers ∥₁
