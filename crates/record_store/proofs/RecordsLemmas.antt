-- The calls of a store, as calls on an archive that is kept.
use Rattle.std.proofs.Common.{◌≡◌, ◌⊎◌, ◌≤◌, ℕ, arith, inl, inr, true, false, refl, sym, ap, ◌∙◌, subst, IsTrue, Result, Ok, Err, true≢false}
use Rattle.std.specs.Result.{IsErr, IsErrAnd}
use Rattle.std.proofs.lemmas.Bool.{cases_Bool, false≢true}
use Rattle.sqlite.specs.Store.{Ghosts}
use Rattle.sqlite_disk.specs.Disk.{MoreFaults}
use Rattle.sqlite.specs.State.{State, HasCleanDisk}
use Rattle.sqlite.specs.Held.{state}
use Rattle.record_tables.specs.Steps.{CommitsNothing}
use Rattle.record_archive.specs.Archive.{Archive}
use Rattle.record_archive.specs.Calls.{CarriesOut, Does, KeepsMade, Makes, unchanged}
use Rattle.record_archive.specs.Faults.{is_trouble}
use Rattle.record_archive.specs.declared.fault.ArchiveRefusal.{ArchiveRefusal}
use Rattle.record_store.specs.Faults.{StoreFault}
use Rattle.record_store.specs.Stores.{Becomes, Falls, Leaves, LeavesNow, Obeys, ObeysRows, StandsFor, StaysOpenOnOk, Tells}
use Rattle.record_store.specs.Stores.{Fate, Left, ShutAfter, FateKeeps, MayMeet, keeper_of}
use Rattle.record_store.specs.declared.store.Store.{Store}

pub made : {S : Type 0} (g : Ghosts S) (new : Store S) (r : Result Archive ArchiveRefusal) → Becomes g new r → Makes (StandsFor g new) r
made g new (Ok a) h = h
made g new (Err r) h = h

-- what the command has made, which the store represents
makes_one : {S : Type 0} (g : Ghosts S) (new : Store S) (r : Result Archive ArchiveRefusal) → Makes (StandsFor g new) r
    → (b : Archive) × (r ≡ Ok b) × StandsFor g new b
makes_one g new (Ok b) h = (b, refl, h)
makes_one g new (Err r) h = absurd h

-- A store that is found shut after so many faults would have been so before, since only a fault shuts it.
pub shut_before : (old new : State) (n : ℕ) → old.faults ≤ new.faults
    → (IsTrue old.is_open → IsTrue new.is_open ⊎ MoreFaults old.faults new.faults)
    → (new.faults ≤ n) × ((new.is_open ≡ false) ⊎ MoreFaults new.faults n)
    → (old.faults ≤ n) × ((old.is_open ≡ false) ⊎ MoreFaults old.faults n)
shut_before old new n counts closes may = (omega (arith, may.0), go (cases_Bool old.is_open))
  where
    go : IsTrue old.is_open ⊎ (old.is_open ≡ false) → (old.is_open ≡ false) ⊎ MoreFaults old.faults n
    go (inr closed) = inl closed
    go (inl on) = inr (elim (closes on) [
      | inr more ↦ omega (arith, more, may.0)
      | inl still ↦ elim may.1 [ inl shut ↦ absurd (false≢true (sym shut ∙ still)) | inr more ↦ omega (arith, more, counts) ]
    ])

-- nothing is committed
pub met_before : {S : Type 0} (g : Ghosts S) (old new : Store S) → CommitsNothing g old.conn new.conn → HasCleanDisk (state g new.conn)
    → (fate : Fate) → MayMeet g new fate → MayMeet g old fate
met_before g old new survives clean (Left trees) may = elim (survives.crash clean trees may) [ inl before ↦ before | inr none ↦ absurd none ]
met_before g old new survives clean (ShutAfter n) may =
    shut_before (state g old.conn) (state g new.conn) n survives.counts (survives.closes clean) may

module _ {S X : Type 0} (g : Ghosts S) (old new : Store S) where
  abbrev pub Done : (command : Archive → Result Archive ArchiveRefusal) (Answers : Archive → X → Type 0) (result : Result X StoreFault) → Type 0
  Done command Answers result = Does (keeper_of g) old new command Answers result

  abbrev pub Carried : (command : Archive → Result Archive ArchiveRefusal) (Answers : Archive → X → Type 0) (result : Result X StoreFault) → Type 0
  Carried command Answers result = CarriesOut (keeper_of g) old new command Answers result

  -- a call that relies on what it knows beside the tables
  pub done_so : (command : Archive → Result Archive ArchiveRefusal) (Answers : Archive → X → Type 0) (result : Result X StoreFault)
      → Obeys g old new result command Answers → Done command Answers result
  done_so command Answers (Ok x) obeys = λ clean a s. let h = obeys a s in (made g new (command a) h.0, h.1)
  done_so command Answers (Err f) obeys = λ a s. let h = obeys a s in (h.0, λ clean. h.1)

  -- a call that reads the tables first
  pub done_rows : (command : Archive → Result Archive ArchiveRefusal) (Answers : Archive → X → Type 0) (result : Result X StoreFault)
      → ObeysRows g old new result command Answers → Done command Answers result
  done_rows command Answers (Ok x) obeys = λ clean a s. let h = obeys clean a s in (made g new (command a) h.0, h.1)
  done_rows command Answers (Err f) obeys = obeys

  -- a call that only reads, and is not refused by the archive
  pub read_out : (Answers : Archive → X → Type 0) (result : Result X StoreFault) → Tells g old new result Answers (λ a r. ⊥)
      → Done unchanged Answers result
  read_out Answers (Ok x) tells = λ clean a s. let h = tells a s in (h.0, h.1 clean)
  read_out Answers (Err f) tells = λ a s. let h = tells a s in (h.0, λ clean r is. absurd (h.1 clean r is))

  -- the connection is not found open
  refused : (command : Archive → Result Archive ArchiveRefusal) (Answers : Archive → X → Type 0) (f : StoreFault)
      → ((a : Archive) → StandsFor g old a → StandsFor g new a) → Falls g old new → is_trouble f ≡ true
      → CommitsNothing g old.conn new.conn → Carried command Answers (Err f)
  refused command Answers f stands falls trouble crash = record {
    was_clean = falls;
    does = λ a s. (stands a s, λ clean r is. absurd (true≢false (sym trouble ∙ ap is_trouble is)));
    crash = λ clean a s image may. inl (met_before g old new crash clean image may);
    kept = tt;
  }

  pub not_open : (command : Archive → Result Archive ArchiveRefusal) (Answers : Archive → X → Type 0) (result : Result X StoreFault)
      (f : StoreFault) → IsErr result → IsErrAnd result (λ x. x ≡ f)
      → ((a : Archive) → StandsFor g old a → StandsFor g new a) → Falls g old new → is_trouble f ≡ true
      → CommitsNothing g old.conn new.conn → Carried command Answers result
  not_open command Answers (Err e) f is same stands falls trouble crash =
      let P : StoreFault → Type 0 = λ x. Carried command Answers (Err x) in
      subst P (sym same) (refused command Answers f stands falls trouble crash)
  not_open command Answers (Ok x) f is same stands falls trouble crash = absurd (false≢true is)

-- a call on a connection that was found open
module _ {S X : Type 0} (g : Ghosts S) (old mid new : Store S) (command : Archive → Result Archive ArchiveRefusal)
    (Answers : Archive → X → Type 0) (same : (a : Archive) → StandsFor g old a → StandsFor g mid a) (fell : Falls g old mid)
    (opened : HasCleanDisk (state g mid.conn) → IsTrue (state g mid.conn).is_open) (looked : CommitsNothing g old.conn mid.conn)
    (falls : Falls g mid new) (leaves : Leaves g mid new command) (left : LeavesNow g new) where
  crashed : HasCleanDisk (state g new.conn) → (a : Archive) → StandsFor g old a → (fate : Fate) → MayMeet g new fate
      → MayMeet g old fate ⊎ KeepsMade FateKeeps fate (command a)
  crashed clean a s (Left trees) may =
      let sure = falls clean in
      elim ((leaves a (same a s) (opened sure)).crash clean trees may) [
        | inl was ↦ inl (met_before g old mid looked sure (Left trees) was)
        | inr keeps ↦ inr (keeps.0, keeps.1, keeps.2)
      ]
  crashed clean a s (ShutAfter n) may =
      let sure = falls clean in
      let made = leaves a (same a s) (opened sure) in
      inl (met_before g old mid looked sure (ShutAfter n) (shut_before (state g mid.conn) (state g new.conn) n
      made.counts (made.closes clean) may))

  kept_now : HasCleanDisk (state g new.conn) → IsTrue (state g new.conn).is_open → (b : Archive) → StandsFor g new b
      → (fate : Fate) → MayMeet g new fate → FateKeeps fate b
  kept_now clean on b there (Left trees) may = (left clean on b there trees may).0
  kept_now clean on b there (ShutAfter n) may = elim may.1 [
    | inl closed ↦ absurd (false≢true (sym closed ∙ on))
    | inr more ↦ omega (arith, more)
  ]

  pub carried_out : (result : Result X StoreFault) → Done g mid new command Answers result → StaysOpenOnOk g mid new result
      → Carried g old new command Answers result
  carried_out (Ok x) does stays = record {
    was_clean = λ clean. fell (falls clean);
    does = λ clean a s. does clean a (same a s);
    crash = crashed;
    kept = λ clean a s image may.
        let there = same a s in
        let one = makes_one g new (command a) (does clean a there).0 in
        (one.0, one.1, kept_now clean (stays a there clean (opened (falls clean))) one.0 one.2 image may);
  }
  carried_out (Err f) does stays = record { was_clean = λ clean. fell (falls clean); does = λ a s. does a (same a s); crash = crashed; kept = tt }
