-- What the calls of a store promise where something else, a companion, is done in their transactions.
use Rattle.std.specs.Prelude.{◌≡◌, Result, Ok, Err, OnOk, OnErr, IsTrue}
use Rattle.sqlite.specs.Store.{Ghosts}
use Rattle.sqlite.specs.Effect.{Database}
use Rattle.sqlite.specs.State.{HasCleanDisk, Survives}
use Rattle.sqlite.specs.Tree.{Trees}
use Rattle.sqlite.specs.Held.{state}
use Rattle.record_archive.specs.Archive.{Archive}
use Rattle.record_archive.specs.Calls.{KeepsMade}
use Rattle.record_archive.specs.declared.fault.ArchiveRefusal.{ArchiveRefusal}
use Rattle.record_store.specs.Faults.{StoreFault}
use Rattle.record_store.specs.Stores.{StandsFor, TreesKeep, Obeys, ObeysRows, ChangesWhere}
use Rattle.record_store.specs.declared.store.Store.{Store}

-- while the connection is open, the database has what the companion needs
abbrev pub IsReady : {S : Type 0} → Ghosts S → (Database → Type 0) → Store S → Type 0
IsReady g Needs store = HasCleanDisk (state g store.conn) → IsTrue (state g store.conn).is_open → Needs (state g store.conn).now

-- a call carries out a command, where there is what the companion needs
abbrev pub ObeysReady : {S X : Type 0} → Ghosts S → (Database → Type 0) → (old new : Store S) → Result X StoreFault →
    (Archive → Result Archive ArchiveRefusal) → (Archive → X → Type 0) → Type 0
ObeysReady g Needs old new (Ok x) command Answers = IsReady g Needs old → Obeys g old new (Ok x) command Answers
ObeysReady g Needs old new (Err f) command Answers = Obeys g old new (Err f) command Answers

-- the same for a call that reads the tables first
abbrev pub ObeysRowsReady : {S X : Type 0} → Ghosts S → (Database → Type 0) → (old new : Store S) → Result X StoreFault →
    (Archive → Result Archive ArchiveRefusal) → (Archive → X → Type 0) → Type 0
ObeysRowsReady g Needs old new (Ok x) command Answers = IsReady g Needs old → ObeysRows g old new (Ok x) command Answers
ObeysRowsReady g Needs old new (Err f) command Answers = ObeysRows g old new (Err f) command Answers

-- where the call succeeds, the connection was open, and what the companion brings is brought about between the databases
-- before and after
abbrev pub Brought : {S X : Type 0} → Ghosts S → (Database → Type 0) → (Database → Database → Type 0) → (old new : Store S) →
    Result X StoreFault → Type 0
Brought g Needs Brings old new result = (a : Archive) → StandsFor g old a → IsReady g Needs old → HasCleanDisk (state g new.conn) →
    OnOk result (IsTrue (state g old.conn).is_open × Brings (state g old.conn).now (state g new.conn).now)

-- where the call is refused and the connection is still open, it was open before, and the database is as it was
abbrev pub FailsStill : {S X : Type 0} → Ghosts S → (old new : Store S) → Result X StoreFault → Type 0
FailsStill g old new result = (a : Archive) → StandsFor g old a → HasCleanDisk (state g new.conn) → IsTrue (state g new.conn).is_open →
    OnErr result (IsTrue (state g old.conn).is_open × ((state g new.conn).now ≡ (state g old.conn).now))

-- these trees keep the archive, and what the companion brings is brought about between this database and theirs
pub record KeepsBoth (Brings : Database → Database → Type 0) (was : Database) (trees : Trees) (a : Archive) : Type 0 where
  pub kept : TreesKeep trees a
  pub brought : Brings was kept.db

-- What a crash in a call on an open connection may leave: what a crash might have left before it, or the command's archive
-- with what the companion brings. So none is there without the other.
abbrev pub LeavesBoth : {S : Type 0} → Ghosts S → (Database → Type 0) → (Database → Database → Type 0) → (old new : Store S) →
    (Archive → Result Archive ArchiveRefusal) → Type 0
LeavesBoth g Needs Brings old new command = (a : Archive) → StandsFor g old a → IsReady g Needs old → IsTrue (state g old.conn).is_open →
    Survives (state g old.conn) (state g new.conn)
    (λ (trees : Trees). KeepsMade (KeepsBoth Brings (state g old.conn).now) trees (command a))

-- ---- a change that is allowed by a condition

-- the store represents what the change makes of the archive, where there is what the companion needs
abbrev pub ChangesReady : {S : Type 0} → Ghosts S → (Database → Type 0) → (old new : Store S) → (Archive → Type 0) →
    (Archive → Archive) → Type 0
ChangesReady g Needs old new Allowed change = IsReady g Needs old → ChangesWhere g old new Allowed change

-- the connection was open, and what the companion brings is brought about
abbrev pub BringsWhere : {S : Type 0} → Ghosts S → (Database → Type 0) → (Database → Database → Type 0) → (old new : Store S) →
    (Archive → Type 0) → Type 0
BringsWhere g Needs Brings old new Allowed = (a : Archive) → StandsFor g old a → IsReady g Needs old → Allowed a →
    HasCleanDisk (state g new.conn) → IsTrue (state g old.conn).is_open × Brings (state g old.conn).now (state g new.conn).now

-- what a crash may leave while the change is made beside its companion
abbrev pub LeavesBothWhere : {S : Type 0} → Ghosts S → (Database → Type 0) → (Database → Database → Type 0) → (old new : Store S) →
    (Archive → Type 0) → (Archive → Archive) → Type 0
LeavesBothWhere g Needs Brings old new Allowed change = (a : Archive) → StandsFor g old a → IsReady g Needs old →
    Survives (state g old.conn) (state g new.conn) (λ (trees : Trees). IsTrue (state g old.conn).is_open → Allowed a →
    KeepsBoth Brings (state g old.conn).now trees (change a))
