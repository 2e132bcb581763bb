-- Lines are noted beside no change of the archive.
use Rattle.std.proofs.Common.{◌≡◌, ◌++◌, ℕ, List, Result, Ok, Err, OnOk, true, refl, sym, ap, subst, ◌∙◌}
use Rattle.std.specs.Result.{IsErr, IsErrAnd}
use Rattle.std.proofs.lemmas.Bool.{false≢true}
use Rattle.sqlite.specs.Store.{Ghosts}
use Rattle.sqlite.specs.State.{HasCleanDisk}
use Rattle.sqlite.specs.Held.{state}
use Rattle.sqlite.proofs.StateLemmas.{survives_weaker}
use Rattle.record_tables.specs.Events.{Event as Row, StoresEvents}
use Rattle.record_history.specs.Laws.{Told}
use Rattle.record_archive.specs.Archive.{Archive}
use Rattle.record_archive.specs.Calls.{Quietly, unchanged}
use Rattle.record_archive.specs.Faults.{WhereRefused, is_trouble}
use Rattle.record_archive.specs.declared.fault.ArchiveFault.TheVariants.{Refused, Database, NoMemory}
use Rattle.record_store.specs.Companions.{ObeysReady, Brought, FailsStill, LeavesBoth}
use Rattle.record_store.specs.Faults.{StoreFault}
use Rattle.record_store.specs.Stores.{StandsFor, Behaves, Falls}
use Rattle.record_noted.specs.Rows.{AreAfter, Awaits, NotesEvents}
use Rattle.record_noted.specs.Additions.{EndsWith, Explained, NotesLines}
use Rattle.record_noted.specs.Histories.{rows_from, rows_of, MovesOn, StandsWith, StandsTold, TreesKeepWith, Obeys, NotesAll}
use Rattle.record_noted.specs.Histories.{DoesTold, IsTold, IsTrouble}
use Rattle.record_noted.specs.declared.store.NotedStore.{NotedStore}
use Rattle.record_noted.proofs.HistoryLemmas.{Lengthens, all_done, all_refused, all_unmarked, rows_of_more}
use Rattle.record_noted.proofs.RowLemmas.{in_order_after}

-- ---- what the lines explain

module _ {S X : Type 0} (g : Ghosts S) (old new : NotedStore S) (result : Result X StoreFault) (lines : List (List ℕ))
    (notes : NotesAll g old new result unchanged Quietly lines) where
  -- the archive that a crash may leave is the same
  same_kept : (a b : Archive) (ls : List (List ℕ)) → unchanged a ≡ Ok b → Told a ls → Told b ls
  same_kept a b ls made told = let same : a ≡ b = let e = made in cc in subst (λ x. Told x ls) same told

  stands_done : (r : Result X StoreFault) → Obeys g old new r unchanged Quietly lines → HasCleanDisk (state g new.store.conn) → (a : Archive)
      (ls : List (List ℕ)) → StandsWith g old a ls → Told a (ls ++ lines) → OnOk r (StandsTold g new a)
  stands_done (Ok x) obeys clean a ls s told = (ls ++ lines, (obeys clean a ls s).0, told)
  stands_done (Err f) obeys clean a ls s told = tt

  explained : (a : Archive) (ls : List (List ℕ)) → StandsWith g old a ls → Told a (ls ++ lines) → Explained g old new result a
  explained a ls s told = record {
    does = λ clean. stands_done result notes.obeys clean a ls s told;
    crash = λ is_open.
        survives_weaker (state g old.store.conn) (state g new.store.conn) _ _ (λ clean trees it.
        let same : it.0 ≡ a = let e = it.1 in cc in (ls ++ lines, subst (λ b. TreesKeepWith trees b (ls ++ lines)) same it.2, told))
        (notes.crash a ls s is_open);
  }

  still_told : ((a : Archive) (ls : List (List ℕ)) → StandsWith g old a ls → Told a ls → Told a (ls ++ lines)) → IsTold g old new result unchanged
  still_told told = record {
    does = does result notes.obeys;
    crash = λ (a : Archive) s is_open.
        survives_weaker (state g old.store.conn) (state g new.store.conn) _ _ (λ clean trees it. (
          it.0,
          it.1,
          (s.0 ++ lines, it.2, same_kept a it.0 (s.0 ++ lines) it.1 (told a s.0 s.1 s.2)),
        )) (notes.crash a s.0 s.1 is_open);
  }
    where
      does : (r : Result X StoreFault) → Obeys g old new r unchanged Quietly lines → DoesTold g old new r unchanged
      does (Ok x) obeys = λ clean (a : Archive) s. (s.0 ++ lines, (obeys clean a s.0 s.1).0, told a s.0 s.1 s.2)
      does (Err f) obeys = λ (a : Archive) s. let kept = obeys a s.0 s.1 in ((s.0, kept.0, s.2), kept.1)

  pub notes_lines : EndsWith old new result lines → ((a : Archive) → StandsFor g old.store a → IsTrouble result)
      → NotesLines g old new result lines
  notes_lines ends trouble = record { notes = notes; explains = explained; told = still_told; ends = ends; trouble = trouble }

-- ---- the call succeeds, or is refused

-- what changes nothing is never refused by the archive
is_trouble_of : (f : StoreFault) (a : Archive) → WhereRefused (λ r. unchanged a ≡ Err r) f → is_trouble f ≡ true
is_trouble_of (Refused r) a where_refused = absurd (let e = where_refused r refl in cc)
is_trouble_of (Database c) a where_refused = refl
is_trouble_of NoMemory a where_refused = refl

-- a refusal that `?` passes on leaves the end of the history, and is this one
ends_refused : {S X : Type 0} (old new : NotedStore S) (result : Result X StoreFault) (lines : List (List ℕ)) → IsErr result
    → new.next ≡ old.next → new.mark ≡ old.mark → EndsWith old new result lines
ends_refused old new (Err f) lines is next mark = (next, mark)
ends_refused old new (Ok x) lines is next mark = absurd (false≢true is)

trouble_passed : {X : Type 0} (result : Result X StoreFault) (f : StoreFault) → IsErrAnd result (λ x. x ≡ f) → is_trouble f ≡ true
    → IsTrouble result
trouble_passed (Err e) f same trouble = ap is_trouble same ∙ trouble
trouble_passed (Ok x) f same trouble = tt

-- the lines have no rows
pub lines_unmarked : {S X : Type 0} (g : Ghosts S) (old : NotedStore S) (result : Result X StoreFault) (f : StoreFault)
    (lines : List (List ℕ)) → IsErr result → IsErrAnd result (λ x. x ≡ f) → is_trouble f ≡ true → NotesLines g old old result lines
lines_unmarked g old result f lines is same trouble =
    notes_lines g old old result lines (all_unmarked g old result f unchanged Quietly lines is same trouble)
    (ends_refused old old result lines is refl refl) (λ a s. trouble_passed result f same trouble)

module _ {S : Type 0} (g : Ghosts S) (old : NotedStore S) (lines : List (List ℕ)) (all : List Row)
    (rows : all ≡ rows_from old.next old.mark.items lines) where
  lengthens : (a : Archive) (ls : List (List ℕ)) → StandsWith g old a ls → Lengthens g old (Awaits all) (NotesEvents all) lines a ls
  lengthens a ls s =
      let order : AreAfter (rows_of ls) all = subst (AreAfter (rows_of ls)) (sym rows) (in_order_after ls old.next old.mark.items lines s.next) in
      record {
        ready = λ clean is_open. (rows_of ls, s.lines clean is_open, order);
        noted = λ was db notes stored.
            subst (StoresEvents db) (ap (λ es. rows_of ls ++ es) rows ∙ rows_of_more g old a ls lines s) (notes (rows_of ls) stored order);
      }

  pub lines_done : {X : Type 0} (new : NotedStore S) (x : X) → ObeysReady g (Awaits all) old.store new.store (Ok x) unchanged Quietly
      → Brought {X = X} g (Awaits all) (NotesEvents all) old.store new.store (Ok x) → Behaves {X = X} g old.store new.store (Ok x)
      → LeavesBoth g (Awaits all) (NotesEvents all) old.store new.store unchanged
      → MovesOn old.next old.mark.items lines new.next new.mark.items → NotesLines g old new (Ok x) lines
  lines_done new x obeys brought behaves left ends =
      notes_lines g old new (Ok x) lines
      (all_done g old (Awaits all) (NotesEvents all) lines lengthens new x unchanged Quietly (λ ready clean. obeys ready) brought behaves left ends)
      ends (λ a s. tt)

  pub lines_refused : {X : Type 0} (new : NotedStore S) (result : Result X StoreFault) (f : StoreFault) → IsErr result
      → IsErrAnd result (λ x. x ≡ f) → ObeysReady {X = X} g (Awaits all) old.store new.store (Err f) unchanged Quietly
      → FailsStill {X = X} g old.store new.store (Err f) → Falls g old.store new.store
      → LeavesBoth g (Awaits all) (NotesEvents all) old.store new.store unchanged
      → new.next ≡ old.next → new.mark ≡ old.mark → NotesLines g old new result lines
  lines_refused new result f is same obeys still falls left next mark =
      notes_lines g old new result lines
      (all_refused g old (Awaits all) (NotesEvents all) lines lengthens new result f unchanged Quietly is same
      (λ a s. let kept = obeys a s in (kept.0, λ clean. kept.1)) still falls left next mark)
      (ends_refused old new result lines is next mark)
      (λ a s. trouble_passed result f same (is_trouble_of f a (obeys a s).1))
