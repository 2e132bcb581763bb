-- Calls that only read a store with a history, and what a crash leaves of it between two calls.
use Rattle.std.specs.Prelude.{◌≡◌, ℕ, List, Some, Result, Ok, Err, IsTrue}
use Rattle.std.specs.Option.{unwrap_or}
use Rattle.sqlite.specs.Store.{Ghosts}
use Rattle.sqlite.specs.State.{HasCleanDisk}
use Rattle.sqlite.specs.Tree.{Trees}
use Rattle.sqlite.specs.Held.{state}
use Rattle.class_plan.specs.Plans.{schedule_at}
use Rattle.class_plan.specs.declared.schedules.Schedule.{Schedule}
use Rattle.class_plan.specs.declared.schedules.Schedule.TheVariants.{Permanent}
use Rattle.record_archive.specs.Archive.{Archive, Record, record_at}
use Rattle.record_archive.specs.Faults.{WhereRefused}
use Rattle.record_archive.specs.declared.fault.ArchiveRefusal.{ArchiveRefusal}
use Rattle.record_store.specs.Faults.{StoreFault}
use Rattle.record_store.specs.Stores.{LeavesAll, Falls}
use Rattle.record_noted.specs.Histories.{KeepsLines, StandsTold, StandsWith, TreesTold}
use Rattle.record_noted.specs.declared.store.NotedStore.{NotedStore}

module _ {S : Type 0} (g : Ghosts S) (old new : NotedStore S) where
  -- while the disk is clean, the answer is that of the archive for which the store stands, whichever lines are beside it
  abbrev pub TellsWith : {X : Type 0} → Result X StoreFault → (Archive → X → Type 0) → (Archive → ArchiveRefusal → Type 0) → Type 0
  TellsWith (Ok x) Answers Refuses = (a : Archive) → (ls : List (List ℕ)) → StandsWith g old a ls →
      HasCleanDisk (state g new.store.conn) → Answers a x
  TellsWith (Err f) Answers Refuses = (a : Archive) → (ls : List (List ℕ)) → StandsWith g old a ls →
      HasCleanDisk (state g new.store.conn) → WhereRefused (Refuses a) f

  -- A call reads: it tells of the archive, the store stands for the same one beside the very same lines, a disk that is clean
  -- after the call was clean before it, and a crash leaves what it might have left before.
  pub record ReadsWith {X : Type 0} (result : Result X StoreFault) (Answers : Archive → X → Type 0)
      (Refuses : Archive → ArchiveRefusal → Type 0) : Type 0 where
    pub tells : TellsWith result Answers Refuses
    pub lines : KeepsLines g old new
    pub falls : Falls g old.store new.store
    pub crash : LeavesAll g old.store new.store

-- the schedule of the class of a record; a path without one is kept for ever
abbrev pub IsScheduleOfRecord : ℕ → Archive → Schedule → Type 0
IsScheduleOfRecord n a s = (r : Record) × (record_at a n ≡ Some r) × (unwrap_or (schedule_at a.plan r.path) Permanent ≡ s)

-- while the connection is open, whatever a crash at this moment leaves keeps the archive, beside a history that explains it
abbrev pub LeavesToldNow : {S : Type 0} → Ghosts S → NotedStore S → Type 0
LeavesToldNow g noted = HasCleanDisk (state g noted.store.conn) → IsTrue (state g noted.store.conn).is_open → (a : Archive) →
    StandsTold g noted a → (trees : Trees) → (state g noted.store.conn).may_leave trees → TreesTold trees a
