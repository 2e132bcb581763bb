-- A store with a history after a call that only reads.
use Rattle.std.proofs.Common.{◌≡◌, ℕ, List, sym, subst, Result, Ok, Err}
use Rattle.std.specs.Result.{IsErr, IsErrAnd}
use Rattle.std.proofs.lemmas.Bool.{false≢true}
use Rattle.sqlite.specs.Store.{Ghosts}
use Rattle.sqlite.specs.State.{HasCleanDisk}
use Rattle.sqlite.specs.Held.{state}
use Rattle.record_archive.specs.Archive.{Archive}
use Rattle.record_archive.specs.Faults.{WhereRefused}
use Rattle.record_archive.specs.declared.fault.ArchiveRefusal.{ArchiveRefusal}
use Rattle.record_store.specs.Faults.{StoreFault}
use Rattle.record_store.specs.Stores.{StandsFor, StaysStill, Tells, Falls, LeavesAll}
use Rattle.record_noted.specs.Histories.{KeepsLines, StandsTold, StandsWith}
use Rattle.record_noted.specs.Readings.{TellsWith, ReadsWith}
use Rattle.record_noted.specs.declared.store.NotedStore.{NotedStore}
use Rattle.record_noted.proofs.HistoryLemmas.{stands_still}

module _ {S : Type 0} (g : Ghosts S) (old new : NotedStore S) (next : new.next ≡ old.next) (mark : new.mark ≡ old.mark)
    (falls : Falls g old.store new.store) (still : StaysStill g old.store new.store) where
  -- it stands for the same archive, beside the same lines
  pub lines_read : (a : Archive) (ls : List (List ℕ)) → StandsWith g old a ls → StandsFor g new.store a → StandsWith g new a ls
  lines_read a ls s stands = stands_still g old new a ls s stands next mark falls (λ clean is_open. still a s.stands clean is_open)

  pub stands_read : (a : Archive) → StandsTold g old a → StandsFor g new.store a → StandsTold g new a
  stands_read a s stands = (s.0, lines_read a s.0 s.1 stands, s.2)

  tells_read : {X : Type 0} (result : Result X StoreFault) (Answers : Archive → X → Type 0) (Refuses : Archive → ArchiveRefusal → Type 0)
      → Tells g old.store new.store result Answers Refuses → TellsWith g old new result Answers Refuses
  tells_read (Ok x) Answers Refuses tells = λ a ls s. (tells a s.stands).1
  tells_read (Err f) Answers Refuses tells = λ a ls s. (tells a s.stands).1

  keeps_read : {X : Type 0} (result : Result X StoreFault) (Answers : Archive → X → Type 0) (Refuses : Archive → ArchiveRefusal → Type 0)
      → Tells g old.store new.store result Answers Refuses → KeepsLines g old new
  keeps_read (Ok x) Answers Refuses tells = λ a ls s. lines_read a ls s (tells a s.stands).0
  keeps_read (Err f) Answers Refuses tells = λ a ls s. lines_read a ls s (tells a s.stands).0

  -- what the store's call tells, the call beside a history tells
  pub reads_with : {X : Type 0} (result : Result X StoreFault) (Answers : Archive → X → Type 0) (Refuses : Archive → ArchiveRefusal → Type 0)
      → Tells g old.store new.store result Answers Refuses → LeavesAll g old.store new.store → ReadsWith g old new result Answers Refuses
  reads_with result Answers Refuses tells crash = record {
    tells = tells_read result Answers Refuses tells;
    lines = keeps_read result Answers Refuses tells;
    falls = falls;
    crash = crash;
  }

-- what `?` passes on
pub passed_with : {S X : Type 0} (g : Ghosts S) (old new : NotedStore S) (result : Result X StoreFault) (f : StoreFault)
    (Answers : Archive → X → Type 0) (Refuses : Archive → ArchiveRefusal → Type 0) → IsErr result → IsErrAnd result (λ x. x ≡ f)
    → ((a : Archive) (ls : List (List ℕ)) → StandsWith g old a ls → HasCleanDisk (state g new.store.conn) → WhereRefused (Refuses a) f)
    → KeepsLines g old new → Falls g old.store new.store → LeavesAll g old.store new.store → ReadsWith g old new result Answers Refuses
passed_with {X = X} g old new (Err e) f Answers Refuses is same tells lines falls crash =
    let P : StoreFault → Type 0 = λ x. let r : Result X StoreFault = Err x in TellsWith g old new r Answers Refuses in
    record { tells = subst P (sym same) tells; lines = lines; falls = falls; crash = crash }
passed_with g old new (Ok x) f Answers Refuses is same tells lines falls crash = absurd (false≢true is)
