-- A store with a history, as a keeper of an archive.
use Rattle.std.specs.Prelude.{◌<◌}
use Rattle.sqlite.specs.Store.{Ghosts}
use Rattle.sqlite.specs.State.{HasCleanDisk}
use Rattle.sqlite.specs.Held.{state}
use Rattle.record_archive.specs.Archive.{Archive}
use Rattle.record_archive.specs.Calls.{Keeper}
use Rattle.record_store.specs.Stores.{Fate, Left, ShutAfter, MayMeet}
use Rattle.record_noted.specs.Histories.{StandsTold, TreesTold}
use Rattle.record_noted.specs.declared.store.NotedStore.{NotedStore}

-- what is left keeps this archive beside a history that explains it, and a store is shut only by a fault
abbrev pub FateTold : Fate → Archive → Type 0
FateTold (Left trees) a = TreesTold trees a
FateTold (ShutAfter n) a = 0 < n

-- how a store with a history keeps an archive
abbrev pub keeper_of : {S : Type 0} → Ghosts S → Keeper (NotedStore S) Archive
keeper_of g = record {
  clean = λ n. HasCleanDisk (state g n.store.conn);
  stands = StandsTold g;
  remains = Fate;
  may_leave = λ n. MayMeet g n.store;
  keeps = FateTold;
}
