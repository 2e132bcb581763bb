-- A change that is allowed first and then made, beside its companion.
use Rattle.std.proofs.Common.{◌≡◌, sym, subst, arith, IsTrue, Result, Ok, Err}
use Rattle.sqlite.specs.Store.{Ghosts}
use Rattle.sqlite.specs.Effect.{Database}
use Rattle.sqlite.specs.State.{HasCleanDisk}
use Rattle.sqlite.specs.Held.{state}
use Rattle.sqlite.specs.Tree.{Trees}
use Rattle.sqlite.proofs.StateLemmas.{survives_then, survives_weaker}
use Rattle.record_archive.specs.Archive.{Archive}
use Rattle.record_archive.specs.declared.fault.ArchiveRefusal.{ArchiveRefusal}
use Rattle.record_store.specs.Faults.{StoreFault}
use Rattle.record_store.specs.Stores.{StandsFor, StaysStill, Becomes, Obeys, ObeysRows, Leaves, LeavesAll}
use Rattle.record_store.specs.Companions.{IsReady, ObeysReady, ObeysRowsReady, KeepsBoth, LeavesBoth, LeavesBothWhere, ChangesReady, BringsWhere}
use Rattle.record_store.specs.declared.store.Store.{Store}

-- what the companion needs is there after a look
pub ready_looked : {S : Type 0} (g : Ghosts S) (Needs : Database → Type 0) (old mid : Store S) → StaysStill g old mid
    → (HasCleanDisk (state g mid.conn) → HasCleanDisk (state g old.conn)) → (a : Archive) → StandsFor g old a
    → IsReady g Needs old → IsReady g Needs mid
ready_looked g Needs old mid still falls a s ready clean is_open =
    let it = still a s clean is_open in
    subst Needs (sym it.1) (ready (falls clean) it.0)

module _ {S : Type 0} (g : Ghosts S) (Needs : Database → Type 0) (Brings : Database → Database → Type 0) (old mid new : Store S)
    (command : Archive → Result Archive ArchiveRefusal) (Allowed : Archive → Type 0) (change : Archive → Archive)
    (judged : (a : Archive) → StandsFor g old a → StandsFor g mid a
    × (HasCleanDisk (state g mid.conn) → Allowed a × (command a ≡ Ok (change a))))
    (still : StaysStill g old mid) (fell : HasCleanDisk (state g mid.conn) → HasCleanDisk (state g old.conn)) where
  -- the command is carried out
  pub obeys_allowed : ChangesReady g Needs mid new Allowed change → (HasCleanDisk (state g new.conn) → HasCleanDisk (state g mid.conn))
      → IsReady g Needs old → HasCleanDisk (state g new.conn) → (a : Archive) → StandsFor g old a → Becomes g new (command a) × Unit {0}
  obeys_allowed made falls ready clean a s =
      let j = judged a s in
      let allowed = j.1 (falls clean) in
      (subst (Becomes g new) (sym allowed.1) (made (ready_looked g Needs old mid still fell a s ready) a j.0 allowed.0), tt)

  -- what the companion brings is brought about
  pub brought_allowed : BringsWhere g Needs Brings mid new Allowed → (HasCleanDisk (state g new.conn) → HasCleanDisk (state g mid.conn))
      → (HasCleanDisk (state g mid.conn) → IsTrue (state g mid.conn).is_open) → (a : Archive) → StandsFor g old a → IsReady g Needs old
      → HasCleanDisk (state g new.conn) → IsTrue (state g old.conn).is_open × Brings (state g old.conn).now (state g new.conn).now
  brought_allowed brings falls opened a s ready clean =
      let j = judged a s in
      let back = falls clean in
      let it = still a s back (opened back) in
      let brought = brings a j.0 (ready_looked g Needs old mid still fell a s ready) (j.1 back).0 clean in
      (it.0, subst (λ db. Brings db (state g new.conn).now) it.1 brought.1)

  -- what a crash leaves of the command
  pub leaves_allowed : LeavesAll g old mid → (HasCleanDisk (state g mid.conn) → IsTrue (state g mid.conn).is_open)
      → LeavesBothWhere g Needs Brings mid new Allowed change → LeavesBoth g Needs Brings old new command
  leaves_allowed looked opened made a s ready is_open =
      let j = judged a s in
      let two = made a j.0 (ready_looked g Needs old mid still fell a s ready) in
      let back : HasCleanDisk (state g new.conn) → HasCleanDisk (state g mid.conn) = λ clean. omega (arith, two.clean, clean) in
      survives_then (state g old.conn) (state g mid.conn) (state g new.conn) _ _ _ (λ _ db none. absurd (none is_open))
      (λ clean (trees : Trees) left.
      let allowed = j.1 (back clean) in
      let both = left (opened (back clean)) allowed.0 in (
        change a,
        allowed.1,
        subst (λ db. KeepsBoth Brings db trees (change a)) (still a s (back clean) (opened (back clean))).1 both,
      )) (looked a s) two

-- the command is refused before anything is changed
pub leaves_both_refused : {S : Type 0} (g : Ghosts S) (Needs : Database → Type 0) (Brings : Database → Database → Type 0) (old new : Store S)
    (command : Archive → Result Archive ArchiveRefusal) → LeavesAll g old new → LeavesBoth g Needs Brings old new command
leaves_both_refused g Needs Brings old new command looked a s ready is_open =
    survives_weaker (state g old.conn) (state g new.conn) _ _ (λ _ db none. absurd (none is_open)) (looked a s)

-- a refusal asks nothing of the companion
pub ready_refused : {S X : Type 0} (g : Ghosts S) (Needs : Database → Type 0) (old new : Store S) (r : Result X StoreFault)
    (command : Archive → Result Archive ArchiveRefusal) (Answers : Archive → X → Type 0)
    → Obeys g old new r command Answers → ObeysReady g Needs old new r command Answers
ready_refused g Needs old new (Ok x) command Answers h = λ ready. h
ready_refused g Needs old new (Err f) command Answers h = h

-- ---- without a companion

pub obeys_alone : {S X : Type 0} (g : Ghosts S) (old new : Store S) (r : Result X StoreFault)
    (command : Archive → Result Archive ArchiveRefusal) (Answers : Archive → X → Type 0)
    → ObeysReady g (λ db. Unit {0}) old new r command Answers → Obeys g old new r command Answers
obeys_alone g old new (Ok x) command Answers h = h (λ clean is_open. tt)
obeys_alone g old new (Err f) command Answers h = h

pub obeys_rows_alone : {S X : Type 0} (g : Ghosts S) (old new : Store S) (r : Result X StoreFault)
    (command : Archive → Result Archive ArchiveRefusal) (Answers : Archive → X → Type 0)
    → ObeysRowsReady g (λ db. Unit {0}) old new r command Answers → ObeysRows g old new r command Answers
obeys_rows_alone g old new (Ok x) command Answers h = h (λ clean is_open. tt)
obeys_rows_alone g old new (Err f) command Answers h = h

pub leaves_alone : {S : Type 0} (g : Ghosts S) (old new : Store S) (command : Archive → Result Archive ArchiveRefusal)
    → LeavesBoth g (λ db. Unit {0}) (λ a b. Unit {0}) old new command → Leaves g old new command
leaves_alone g old new command left a s is_open =
    survives_weaker (state g old.conn) (state g new.conn) _ _ (λ clean trees it. (it.0, it.1, it.2.kept))
    (left a s (λ clean is_open. tt) is_open)
