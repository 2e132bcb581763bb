-- Which archive a store represents, and what its calls promise.
use Rattle.std.specs.Prelude.{◌≡◌, ◌⊎◌, ◌<◌, ◌≤◌, ◌-◌, ℕ, false, None, Result, Ok, Err, OnOk, IfErr, IsTrue}
use Rattle.sqlite_disk.specs.Disk.{MoreFaults}
use Rattle.sqlite.specs.Store.{Ghosts}
use Rattle.sqlite.specs.Effect.{Database, IsDatabase}
use Rattle.sqlite.specs.State.{HasCleanDisk, Survives}
use Rattle.sqlite.specs.Tree.{Trees}
use Rattle.sqlite.specs.Held.{Held, state}
use Rattle.record_archive.specs.Archive.{Archive, IsArchive, next_number, record_at}
use Rattle.record_archive.specs.Calls.{Keeper, KeepsMade}
use Rattle.record_archive.specs.Faults.{WhereRefused}
use Rattle.record_archive.specs.declared.fault.ArchiveRefusal.{ArchiveRefusal}
use Rattle.record_archive.specs.declared.fault.ArchiveRefusal.TheVariants.{NoRecord}
use Rattle.record_adoption.specs.Counts.{count_at}
use Rattle.record_adoption.specs.Keeping.{StoresArchive, live_count, hold_count}
use Rattle.record_store.specs.Faults.{StoreFault, is_own}
use Rattle.record_store.specs.declared.store.Store.{Store}

-- While the disk is clean and the connection open, the rows are those of the archive. Beside the connection the store
-- keeps the plan, the next number, the number of holds on each record, and that of each message's live records beyond
-- the first.
pub record StandsFor {S : Type 0} (g : Ghosts S) (store : Store S) (a : Archive) : Type 0 where
  pub idle : store.conn.in_transaction ≡ false
  pub plan : store.plan ≡ a.plan
  pub next : store.next ≡ next_number a
  pub held : (n : ℕ) → count_at store.held n ≡ hold_count a n
  pub others : (m : ℕ) → count_at store.others m ≡ live_count a m - 1
  pub archive : IsArchive a
  pub rows : HasCleanDisk (state g store.conn) → IsTrue (state g store.conn).is_open →
      StoresArchive (state g store.conn).now a

abbrev pub Becomes : {S : Type 0} → Ghosts S → Store S → Result Archive ArchiveRefusal → Type 0
Becomes g new (Ok b) = StandsFor g new b
Becomes g new (Err f) = ⊥

-- A call carries out a command of the archive. Where it succeeds, the store represents the command's archive, and the
-- answer is right. Where it is refused, nothing has changed, and the refusal is the command's or the world's.
abbrev pub Obeys : {S X : Type 0} → Ghosts S → (old new : Store S) → Result X StoreFault →
    (Archive → Result Archive ArchiveRefusal) → (Archive → X → Type 0) → Type 0
Obeys g old new (Ok x) command Answers = (a : Archive) → StandsFor g old a → Becomes g new (command a) × Answers a x
Obeys g old new (Err f) command Answers = (a : Archive) → StandsFor g old a → StandsFor g new a ×
    WhereRefused (λ r. command a ≡ Err r) f

-- The same for a call that reads the tables first. It relies on what the disk returns, so it carries out the
-- archive's command while the disk is clean.
abbrev pub ObeysRows : {S X : Type 0} → Ghosts S → (old new : Store S) → Result X StoreFault →
    (Archive → Result Archive ArchiveRefusal) → (Archive → X → Type 0) → Type 0
ObeysRows g old new (Ok x) command Answers = HasCleanDisk (state g new.conn) → (a : Archive) → StandsFor g old a →
    Becomes g new (command a) × Answers a x
ObeysRows g old new (Err f) command Answers = (a : Archive) → StandsFor g old a → StandsFor g new a ×
    (HasCleanDisk (state g new.conn) → WhereRefused (λ r. command a ≡ Err r) f)

-- A call reads: the store represents the same archive, and while the disk is clean the answer is the archive's.
abbrev pub Tells : {S X : Type 0} → Ghosts S → (old new : Store S) → Result X StoreFault → (Archive → X → Type 0) →
    (Archive → ArchiveRefusal → Type 0) → Type 0
Tells g old new (Ok x) Answers Refuses = (a : Archive) → StandsFor g old a → StandsFor g new a ×
    (HasCleanDisk (state g new.conn) → Answers a x)
Tells g old new (Err f) Answers Refuses = (a : Archive) → StandsFor g old a → StandsFor g new a ×
    (HasCleanDisk (state g new.conn) → WhereRefused (Refuses a) f)

-- a call reads: while the connection is open, it was open before, and the database is as it was
abbrev pub StaysStill : {S : Type 0} → Ghosts S → (old new : Store S) → Type 0
StaysStill g old new = (a : Archive) → StandsFor g old a → HasCleanDisk (state g new.conn) → IsTrue (state g new.conn).is_open →
    IsTrue (state g old.conn).is_open × ((state g new.conn).now ≡ (state g old.conn).now)

-- While the disk is clean, a call on a store that represents an archive is refused by the command, by sqlite or for no
-- memory, and never by the store itself.
abbrev pub IsNeverOwn : {S X : Type 0} → Ghosts S → (old new : Store S) → Result X StoreFault → Type 0
IsNeverOwn g old new result = (a : Archive) → StandsFor g old a → HasCleanDisk (state g new.conn) → IfErr result (λ f. is_own f ≡ false)

-- these trees are those of a sound database that stores the archive
pub record TreesKeep (trees : Trees) (a : Archive) : Type 0 where
  pub db : Database
  pub same : trees ≡ db.trees
  pub sound : IsDatabase db
  pub stored : StoresArchive db a
  pub archive : IsArchive a

-- What may become of a store: a crash leaves these trees, or it is found shut when the disk has failed so many times.
pub data Fate : Type 0 where
  Left : Trees → Fate
  ShutAfter : (faults : ℕ) → Fate

-- This may become of the store from this moment on. It is found shut after so many faults where it is shut already, or
-- where there is one more by then.
abbrev pub MayMeet : {S : Type 0} → Ghosts S → Store S → Fate → Type 0
MayMeet g store (Left trees) = (state g store.conn).may_leave trees
MayMeet g store (ShutAfter n) = ((state g store.conn).faults ≤ n)
    × (((state g store.conn).is_open ≡ false) ⊎ MoreFaults (state g store.conn).faults n)

-- what is left keeps this archive, and a store is shut only by a fault
abbrev pub FateKeeps : Fate → Archive → Type 0
FateKeeps (Left trees) a = TreesKeep trees a
FateKeeps (ShutAfter n) a = 0 < n

-- how a store keeps an archive
abbrev pub keeper_of : {S : Type 0} → Ghosts S → Keeper (Store S) Archive
keeper_of g = record {
  clean = λ s. HasCleanDisk (state g s.conn);
  stands = StandsFor g;
  remains = Fate;
  may_leave = MayMeet g;
  keeps = FateKeeps;
}

-- while the connection is open, whatever a crash at this moment leaves is the present database, which keeps the archive that
-- the store represents
abbrev pub LeavesNow : {S : Type 0} → Ghosts S → Store S → Type 0
LeavesNow g store = HasCleanDisk (state g store.conn) → IsTrue (state g store.conn).is_open → (a : Archive) →
    StandsFor g store a → (trees : Trees) → (state g store.conn).may_leave trees →
    (kept : TreesKeep trees a) × (kept.db ≡ (state g store.conn).now)

-- what a crash in a call on an open connection may leave: what a crash might have left before it, or the command's
-- archive
abbrev pub Leaves : {S : Type 0} → Ghosts S → (old new : Store S) → (Archive → Result Archive ArchiveRefusal) → Type 0
Leaves g old new command = (a : Archive) → StandsFor g old a → IsTrue (state g old.conn).is_open →
    Survives (state g old.conn) (state g new.conn)
    (λ (trees : Trees). KeepsMade TreesKeep trees (command a))

-- what a crash in a call that reads on an open connection may leave: what a crash might have left before it
abbrev pub LeavesAll : {S : Type 0} → Ghosts S → (old new : Store S) → Type 0
LeavesAll g old new = (a : Archive) → StandsFor g old a →
    Survives (state g old.conn) (state g new.conn) (λ _. IsTrue (state g old.conn).is_open → ⊥)

-- a disk that is clean after the call was clean before it
abbrev pub Falls : {S : Type 0} → Ghosts S → (old new : Store S) → Type 0
Falls g old new = HasCleanDisk (state g new.conn) → HasCleanDisk (state g old.conn)

-- the store represents what a change makes of the archive, where a condition allows it
abbrev pub ChangesWhere : {S : Type 0} → Ghosts S → (old new : Store S) → (Archive → Type 0) → (Archive → Archive) →
    Type 0
ChangesWhere g old new Allowed change = (a : Archive) → StandsFor g old a → Allowed a → StandsFor g new (change a)

-- A call reads whether the archive's command makes this change. Where it does not, the refusal is the command's.
abbrev pub TellsOutcome : {S X : Type 0} → Ghosts S → (old new : Store S) → Result X StoreFault →
    (Archive → Result Archive ArchiveRefusal) → (Archive → Archive) → Type 0
TellsOutcome g old new result command change =
    Tells g old new result (λ a _. command a ≡ Ok (change a)) (λ a f. command a ≡ Err f)

-- where the call succeeds, the connection is open
abbrev pub IsOpenOnOk : {S X : Type 0} → Ghosts S → (new : Store S) → Result X StoreFault → Type 0
IsOpenOnOk g new result = HasCleanDisk (state g new.conn) → OnOk result (IsTrue (state g new.conn).is_open)

-- where the call succeeds on an open connection, it stays open
abbrev pub StaysOpenOnOk : {S X : Type 0} → Ghosts S → (old new : Store S) → Result X StoreFault → Type 0
StaysOpenOnOk g old new result = (a : Archive) → StandsFor g old a → HasCleanDisk (state g new.conn) →
    IsTrue (state g old.conn).is_open → OnOk result (IsTrue (state g new.conn).is_open)

-- What every call of a store promises beside what it does: a disk that is clean after it was clean before, it is never
-- refused by the store itself, and where it succeeds the connection is open.
pub record Behaves {S X : Type 0} (g : Ghosts S) (old new : Store S) (result : Result X StoreFault) : Type 0 where
  pub falls : Falls g old new
  pub cause : IsNeverOwn g old new result
  pub «open» : IsOpenOnOk g new result

-- the archive has no record of this number, and that is the refusal
abbrev pub LacksRecord : ℕ → Archive → ArchiveRefusal → Type 0
LacksRecord n a r = (r ≡ NoRecord) × (record_at a n ≡ None)

-- while the disk is clean, the store represents each archive that is found in this way in the database of the connection
abbrev pub TakesOver : {S : Type 0} → Ghosts S → Held S → Store S → (Database → Archive → Type 0) →
    (Archive → Type 0) → Type 0
TakesOver g conn store FindsIn Is = HasCleanDisk (state g store.conn) → (a : Archive) → FindsIn (state g conn).now a →
    Is a → StandsFor g store a
