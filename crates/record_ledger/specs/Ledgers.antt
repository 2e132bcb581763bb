-- Which archive a ledger stands for.
use Rattle.std.specs.Prelude.{◌≡◌, Bool, true, false}
use Rattle.sqlite.specs.Store.{Ghosts}
use Rattle.sqlite.specs.State.{HasCleanDisk}
use Rattle.sqlite.specs.Held.{state}
use Rattle.record_archive.specs.Archive.{Archive, IsArchive}
use Rattle.record_archive.specs.Calls.{Keeper}
use Rattle.record_store.specs.Stores.{StandsFor, Fate, FateKeeps, MayMeet}
use Rattle.record_store.specs.declared.store.Store.{Store}
use Rattle.record_noted.specs.Histories.{StandsTold}
use Rattle.record_noted.specs.Keepers.{FateTold}
use Rattle.record_noted.specs.declared.opening.Opened.{Opened}
use Rattle.record_noted.specs.declared.opening.Opened.TheVariants.{Plain, Noted}
use Rattle.record_ledger.specs.declared.ledger.Ledger.{Ledger}

abbrev pub store_of : {S : Type 0} → Opened S → Store S
store_of (Plain s) = s
store_of (Noted n) = n.store

abbrev pub keeps_history : {S : Type 0} → Opened S → Bool
keeps_history (Plain s) = false
keeps_history (Noted n) = true

-- A ledger without a history stands for what its store stands for. One with a history stands for an archive that the history
-- explains.
abbrev pub KeptFor : {S : Type 0} → Ghosts S → Opened S → Archive → Type 0
KeptFor g (Plain s) a = StandsFor g s a
KeptFor g (Noted n) a = StandsTold g n a

-- what may become of a ledger: what may become of its store, without a history or with one
pub data LedgerFate : Type 0 where
  PlainFate : Fate → LedgerFate
  NotedFate : Fate → LedgerFate

abbrev pub MayMeetKept : {S : Type 0} → Ghosts S → Opened S → LedgerFate → Type 0
MayMeetKept g (Plain s) (PlainFate f) = MayMeet g s f
MayMeetKept g (Noted n) (NotedFate f) = MayMeet g n.store f
MayMeetKept g (Plain s) (NotedFate f) = ⊥
MayMeetKept g (Noted n) (PlainFate f) = ⊥

-- what is left keeps this archive; with a history, it keeps one beside it that explains the archive
abbrev pub LedgerFateKeeps : LedgerFate → Archive → Type 0
LedgerFateKeeps (PlainFate f) a = FateKeeps f a
LedgerFateKeeps (NotedFate f) a = FateTold f a

-- how a ledger keeps an archive
abbrev pub keeper_of : {S K : Type 0} → Ghosts S → Keeper (Ledger S K) Archive
keeper_of g = record {
  clean = λ l. HasCleanDisk (state g (store_of l.kept).conn);
  stands = λ l a. KeptFor g l.kept a;
  remains = LedgerFate;
  may_leave = λ l f. MayMeetKept g l.kept f;
  keeps = LedgerFateKeeps;
}

-- the store itself stands for the archive
pub kept_stands : {S : Type 0} (g : Ghosts S) (k : Opened S) (a : Archive) → KeptFor g k a → StandsFor g (store_of k) a
kept_stands g (Plain s) a stands = stands
kept_stands g (Noted n) a stands = stands.1.stands

-- the plan beside the records is the archive's
pub kept_plan : {S : Type 0} (g : Ghosts S) (k : Opened S) (a : Archive) → KeptFor g k a → (store_of k).plan ≡ a.plan
kept_plan g k a kept = (kept_stands g k a kept).plan

pub kept_archive : {S : Type 0} (g : Ghosts S) (k : Opened S) (a : Archive) → KeptFor g k a → IsArchive a
kept_archive g k a kept = (kept_stands g k a kept).archive
