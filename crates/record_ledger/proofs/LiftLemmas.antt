-- What the store of a ledger does, with or without a history, the ledger does.
use Rattle.std.proofs.Common.{◌≡◌, ◌⊎◌, sym, subst, Result, Ok, Err}
use Rattle.sqlite.specs.Store.{Ghosts}
use Rattle.sqlite.specs.State.{HasCleanDisk}
use Rattle.sqlite.specs.Held.{state}
use Rattle.record_archive.specs.Archive.{Archive}
use Rattle.record_archive.specs.Calls.{CarriesOut, Keeper, KeepsMade}
use Rattle.record_archive.specs.declared.fault.ArchiveRefusal.{ArchiveRefusal}
use Rattle.record_store.specs.Faults.{StoreFault}
use Rattle.record_store.specs.Stores as stores
use Rattle.record_store.specs.Stores.{Fate}
use Rattle.record_store.specs.declared.store.Store.{Store}
use Rattle.record_noted.specs.Histories.{StandsTold}
use Rattle.record_noted.specs.Keepers as noted
use Rattle.record_noted.specs.declared.store.NotedStore.{NotedStore}
use Rattle.record_history.specs.Events.{Deed}
use Rattle.record_ledger.specs.Notings.{NotesChange, NotesDeed, NotesKept}
use Rattle.record_ledger.specs.Ledgers.{store_of, KeptFor, LedgerFate, PlainFate, NotedFate, MayMeetKept, LedgerFateKeeps, keeper_of}
use Rattle.record_noted.specs.declared.opening.Opened.{Opened}
use Rattle.record_noted.specs.declared.opening.Opened.TheVariants.{Plain, Noted}
use Rattle.record_ledger.specs.declared.ledger.Ledger.{Ledger}

-- how what is opened keeps an archive
abbrev kept_keeper : {S : Type 0} → Ghosts S → Keeper (Opened S) Archive
kept_keeper g = record {
  clean = λ k. HasCleanDisk (state g (store_of k).conn);
  stands = KeptFor g;
  remains = LedgerFate;
  may_leave = MayMeetKept g;
  keeps = LedgerFateKeeps;
}

module _ {S X : Type 0} (g : Ghosts S) (command : Archive → Result Archive ArchiveRefusal) (Answers : Archive → X → Type 0) where
  -- without a history
  plain_kept : (s t : Store S) (result : Result X StoreFault) → CarriesOut (stores.keeper_of g) s t command Answers result
      → CarriesOut (kept_keeper g) (Plain s) (Plain t) command Answers result
  plain_kept s t result done = go result done
    where
      crash : ((a : Archive) → HasCleanDisk (state g t.conn) → stores.StandsFor g s a → (f : Fate) → MayMeetKept g (Plain t) (PlainFate f)
          → MayMeetKept g (Plain s) (PlainFate f) ⊎ KeepsMade LedgerFateKeeps (PlainFate f) (command a))
          → HasCleanDisk (state g t.conn) → (a : Archive) → stores.StandsFor g s a → (fate : LedgerFate) → MayMeetKept g (Plain t) fate
          → MayMeetKept g (Plain s) fate ⊎ KeepsMade LedgerFateKeeps fate (command a)
      crash h clean a there (PlainFate f) may = h a clean there f may
      crash h clean a there (NotedFate f) may = absurd may

      kept : ((a : Archive) → HasCleanDisk (state g t.conn) → stores.StandsFor g s a → (f : Fate) → MayMeetKept g (Plain t) (PlainFate f)
          → KeepsMade LedgerFateKeeps (PlainFate f) (command a))
          → HasCleanDisk (state g t.conn) → (a : Archive) → stores.StandsFor g s a → (fate : LedgerFate) → MayMeetKept g (Plain t) fate
          → KeepsMade LedgerFateKeeps fate (command a)
      kept h clean a there (PlainFate f) may = h a clean there f may
      kept h clean a there (NotedFate f) may = absurd may

      go : (r : Result X StoreFault) → CarriesOut (stores.keeper_of g) s t command Answers r
          → CarriesOut (kept_keeper g) (Plain s) (Plain t) command Answers r
      go (Ok x) c = record {
        was_clean = c.was_clean;
        does = c.does;
        crash = crash (λ a clean there f may. c.crash clean a there f may);
        kept = kept (λ a clean there f may. c.kept clean a there f may);
      }
      go (Err e) c = record {
        was_clean = c.was_clean;
        does = c.does;
        crash = crash (λ a clean there f may. c.crash clean a there f may);
        kept = tt;
      }

  -- with a history
  noted_kept : (s t : NotedStore S) (result : Result X StoreFault) → CarriesOut (noted.keeper_of g) s t command Answers result
      → CarriesOut (kept_keeper g) (Noted s) (Noted t) command Answers result
  noted_kept s t result done = go result done
    where
      crash : ((a : Archive) → HasCleanDisk (state g t.store.conn) → StandsTold g s a → (f : Fate) → MayMeetKept g (Noted t) (NotedFate f)
          → MayMeetKept g (Noted s) (NotedFate f) ⊎ KeepsMade LedgerFateKeeps (NotedFate f) (command a))
          → HasCleanDisk (state g t.store.conn) → (a : Archive) → StandsTold g s a → (fate : LedgerFate) → MayMeetKept g (Noted t) fate
          → MayMeetKept g (Noted s) fate ⊎ KeepsMade LedgerFateKeeps fate (command a)
      crash h clean a there (NotedFate f) may = h a clean there f may
      crash h clean a there (PlainFate f) may = absurd may

      kept : ((a : Archive) → HasCleanDisk (state g t.store.conn) → StandsTold g s a → (f : Fate) → MayMeetKept g (Noted t) (NotedFate f)
          → KeepsMade LedgerFateKeeps (NotedFate f) (command a))
          → HasCleanDisk (state g t.store.conn) → (a : Archive) → StandsTold g s a → (fate : LedgerFate) → MayMeetKept g (Noted t) fate
          → KeepsMade LedgerFateKeeps fate (command a)
      kept h clean a there (NotedFate f) may = h a clean there f may
      kept h clean a there (PlainFate f) may = absurd may

      go : (r : Result X StoreFault) → CarriesOut (noted.keeper_of g) s t command Answers r
          → CarriesOut (kept_keeper g) (Noted s) (Noted t) command Answers r
      go (Ok x) c = record {
        was_clean = c.was_clean;
        does = c.does;
        crash = crash (λ a clean there f may. c.crash clean a there f may);
        kept = kept (λ a clean there f may. c.kept clean a there f may);
      }
      go (Err e) c = record {
        was_clean = c.was_clean;
        does = c.does;
        crash = crash (λ a clean there f may. c.crash clean a there f may);
        kept = tt;
      }

  -- the ledger beside its occasion
  kept_out : {K : Type 0} (old new : Ledger S K) (result : Result X StoreFault) → CarriesOut (kept_keeper g) old.kept new.kept command Answers result
      → CarriesOut (keeper_of g) old new command Answers result
  kept_out old new (Ok x) c = record { was_clean = c.was_clean; does = c.does; crash = c.crash; kept = c.kept }
  kept_out old new (Err e) c = record { was_clean = c.was_clean; does = c.does; crash = c.crash; kept = tt }

  pub plain_out : {K : Type 0} (old new : Ledger S K) (s t : Store S) (result : Result X StoreFault) → old.kept ≡ Plain s → new.kept ≡ Plain t
      → CarriesOut (stores.keeper_of g) s t command Answers result → CarriesOut (keeper_of g) old new command Answers result
  plain_out old new s t result was is c =
      let P : Opened S → Opened S → Type 0 = λ k m. CarriesOut (kept_keeper g) k m command Answers result in
      kept_out old new result (subst (λ m. P old.kept m) (sym is) (subst (λ k. P k (Plain t)) (sym was) (plain_kept s t result c)))

  -- without a history, nothing is noted
  pub plain_notes : {K : Type 0} (old new : Ledger S K) (s t : Store S) (IsDeed : Archive → Deed → Type 0) (result : Result X StoreFault)
      → old.kept ≡ Plain s → new.kept ≡ Plain t → new.occasion ≡ old.occasion → NotesChange g old new command IsDeed result
  plain_notes old new s t IsDeed result was is same =
      let P : Opened S → Opened S → Type 0 = λ k m. NotesKept g k m old.occasion command IsDeed result in
      record { noted = subst (λ m. P old.kept m) (sym is) (subst (λ k. P k (Plain t)) (sym was) tt); occasion = same }

  -- with one, what its calls note
  pub noted_notes : {K : Type 0} (old new : Ledger S K) (s t : NotedStore S) (IsDeed : Archive → Deed → Type 0) (result : Result X StoreFault)
      → old.kept ≡ Noted s → new.kept ≡ Noted t → new.occasion ≡ old.occasion → NotesDeed g s t old.occasion command IsDeed result
      → NotesChange g old new command IsDeed result
  noted_notes old new s t IsDeed result was is same notes =
      let P : Opened S → Opened S → Type 0 = λ k m. NotesKept g k m old.occasion command IsDeed result in
      record { noted = subst (λ m. P old.kept m) (sym is) (subst (λ k. P k (Noted t)) (sym was) notes); occasion = same }

  pub noted_out : {K : Type 0} (old new : Ledger S K) (s t : NotedStore S) (result : Result X StoreFault) → old.kept ≡ Noted s
      → new.kept ≡ Noted t → CarriesOut (noted.keeper_of g) s t command Answers result → CarriesOut (keeper_of g) old new command Answers result
  noted_out old new s t result was is c =
      let P : Opened S → Opened S → Type 0 = λ k m. CarriesOut (kept_keeper g) k m command Answers result in
      kept_out old new result (subst (λ m. P old.kept m) (sym is) (subst (λ k. P k (Noted t)) (sym was) (noted_kept s t result c)))
