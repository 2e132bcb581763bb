-- Calls of a store with a history, as calls on an archive that is kept.
use Rattle.std.proofs.Common.{◌≡◌, ◌⊎◌, ℕ, ℤ, List, [], ◌∷◌, length, arith, inl, inr, refl, sym, ap, ◌∙◌, subst}
use Rattle.std.proofs.Common.{IsTrue, Result, Ok, Err, true, true≢false}
use Rattle.std.specs.Prelude.{OnOk}
use Rattle.std.specs.Result.{IsErr, IsErrAnd}
use Rattle.std.proofs.lemmas.Bool.{false≢true}
use Rattle.sqlite.specs.Store.{Ghosts}
use Rattle.sqlite.specs.State.{HasCleanDisk}
use Rattle.sqlite.specs.Held.{state}
use Rattle.record_tables.specs.Steps.{CommitsNothing}
use Rattle.record_archive.specs.Archive.{Archive, capture, capture_lines, destroy_by, destroy_on, from_1970}
use Rattle.record_archive.specs.Calls.{CarriesOut, KeepsMade, Makes, unchanged}
use Rattle.record_archive.specs.Faults.{is_trouble}
use Rattle.record_archive.specs.declared.fault.ArchiveFault.TheVariants.{NoMemory}
use Rattle.record_archive.specs.declared.fault.ArchiveRefusal.{ArchiveRefusal}
use Rattle.record_store.specs.Faults.{StoreFault}
use Rattle.record_store.specs.declared.fault.Cause.{Cause}
use Rattle.record_store.specs.Stores.{LacksRecord, Falls, Fate, Left, ShutAfter, LeavesAll, MayMeet}
use Rattle.record_store.proofs.RecordsLemmas.{met_before, shut_before}
use Rattle.record_noted.specs.Histories.{IsTold, LeavesTold, Notes, StandsTold}
use Rattle.record_noted.specs.Keepers.{FateTold, keeper_of}
use Rattle.record_noted.specs.Readings.{LeavesToldNow, ReadsWith}
use Rattle.record_noted.specs.declared.store.NotedStore.{NotedStore}

-- what the command has made, which the store stands for
makes_one : {S : Type 0} (g : Ghosts S) (new : NotedStore S) (r : Result Archive ArchiveRefusal) → Makes (StandsTold g new) r
    → (b : Archive) × (r ≡ Ok b) × StandsTold g new b
makes_one g new (Ok b) h = (b, refl, h)
makes_one g new (Err r) h = absurd h

-- what may become of the store at this moment might have become of it before
abbrev Met : {S : Type 0} → Ghosts S → (old mid : NotedStore S) → Type 0
Met g old mid = (a : Archive) → StandsTold g old a → HasCleanDisk (state g mid.store.conn) → (fate : Fate) → MayMeet g mid.store fate →
    MayMeet g old.store fate

-- nothing is committed
met_still : {S : Type 0} (g : Ghosts S) (old mid : NotedStore S) → CommitsNothing g old.store.conn mid.store.conn → Met g old mid
met_still g old mid looked a s clean fate may = met_before g old.store mid.store looked clean fate may

-- a connection that was open is read
met_read : {S : Type 0} (g : Ghosts S) (old mid new : NotedStore S) → Met g old mid → ((a : Archive) → StandsTold g old a → StandsTold g mid a)
    → (HasCleanDisk (state g mid.store.conn) → IsTrue (state g mid.store.conn).is_open) → Falls g mid.store new.store
    → LeavesAll g mid.store new.store → Met g old new
met_read g old mid new met same opened falls leaves a s clean (Left trees) may =
    let sure = falls clean in
    elim ((leaves a (same a s).1.stands).crash clean trees may) [
      | inl was ↦ met a s sure (Left trees) was
      | inr none ↦ absurd (none (opened sure))
    ]
met_read g old mid new met same opened falls leaves a s clean (ShutAfter n) may =
    let sure = falls clean in
    let made = leaves a (same a s).1.stands in
    met a s sure (ShutAfter n) (shut_before (state g mid.store.conn) (state g new.store.conn) n made.counts (made.closes clean) may)

-- Until now the store was only read, and it is found open: it stands for what it stood for, and what may become of it might have
-- become of it before.
pub record IsFoundOpen {S : Type 0} (g : Ghosts S) (old mid : NotedStore S) : Type 0 where
  pub same : (a : Archive) → StandsTold g old a → StandsTold g mid a
  pub fell : Falls g old.store mid.store
  pub opened : HasCleanDisk (state g mid.store.conn) → IsTrue (state g mid.store.conn).is_open
  pub met : Met g old mid

pub found_open : {S : Type 0} (g : Ghosts S) (old mid : NotedStore S) → ((a : Archive) → StandsTold g old a → StandsTold g mid a)
    → Falls g old.store mid.store → (HasCleanDisk (state g mid.store.conn) → IsTrue (state g mid.store.conn).is_open)
    → CommitsNothing g old.store.conn mid.store.conn → IsFoundOpen g old mid
found_open g old mid same fell opened looked = record { same = same; fell = fell; opened = opened; met = met_still g old mid looked }

-- what becomes of a store that is open keeps the archive that it stands for
kept_now : {S : Type 0} (g : Ghosts S) (new : NotedStore S) → LeavesToldNow g new → HasCleanDisk (state g new.store.conn)
    → IsTrue (state g new.store.conn).is_open → (b : Archive) → StandsTold g new b → (fate : Fate) → MayMeet g new.store fate → FateTold fate b
kept_now g new left clean on b there (Left trees) may = left clean on b there trees may
kept_now g new left clean on b there (ShutAfter n) may = elim may.1 [
  | inl closed ↦ absurd (false≢true (sym closed ∙ on))
  | inr more ↦ omega (arith, more)
]

-- a call that the world refuses before it changes anything
module _ {S X : Type 0} (g : Ghosts S) (old new : NotedStore S) (same : (a : Archive) → StandsTold g old a → StandsTold g new a)
    (fell : Falls g old.store new.store) (met : Met g old new) (command : Archive → Result Archive ArchiveRefusal)
    (Answers : Archive → X → Type 0) where
  stopped : (result : Result X StoreFault) (f : StoreFault) → IsErr result → IsErrAnd result (λ x. x ≡ f) → is_trouble f ≡ true
      → CarriesOut (keeper_of g) old new command Answers result
  stopped (Err e) f is e_is trouble = record {
    was_clean = fell;
    does = λ a s. (same a s, λ clean r refused. absurd (true≢false (sym trouble ∙ ap is_trouble (sym e_is ∙ refused))));
    crash = λ clean a s image may. inl (met a s clean image may);
    kept = tt;
  }
  stopped (Ok x) f is e_is trouble = absurd (false≢true is)

-- the connection is not found open
pub not_open : {S X : Type 0} (g : Ghosts S) (old new : NotedStore S) (command : Archive → Result Archive ArchiveRefusal)
    (Answers : Archive → X → Type 0) → ((a : Archive) → StandsTold g old a → StandsTold g new a) → Falls g old.store new.store
    → CommitsNothing g old.store.conn new.store.conn → (result : Result X StoreFault) (f : StoreFault) → IsErr result
    → IsErrAnd result (λ x. x ≡ f) → is_trouble f ≡ true → CarriesOut (keeper_of g) old new command Answers result
not_open g old new command Answers same fell looked = stopped g old new same fell (met_still g old new looked) command Answers

-- a call on a connection that was found open
module _ {S X : Type 0} (g : Ghosts S) (old mid new : NotedStore S) (found : IsFoundOpen g old mid)
    (command : Archive → Result Archive ArchiveRefusal) (Answers : Archive → X → Type 0) (line : List ℕ) where
  crashed : Falls g mid.store new.store → LeavesTold g mid new command → HasCleanDisk (state g new.store.conn) → (a : Archive)
      → StandsTold g old a → (fate : Fate) → MayMeet g new.store fate → MayMeet g old.store fate ⊎ KeepsMade FateTold fate (command a)
  crashed falls leaves clean a s (Left trees) may =
      let sure = falls clean in
      elim ((leaves a (found.same a s) (found.opened sure)).crash clean trees may) [
        | inl was ↦ inl (found.met a s sure (Left trees) was)
        | inr keeps ↦ inr (keeps.0, keeps.1, keeps.2)
      ]
  crashed falls leaves clean a s (ShutAfter n) may =
      let sure = falls clean in
      let made = leaves a (found.same a s) (found.opened sure) in
      inl (found.met a s sure (ShutAfter n) (shut_before (state g mid.store.conn) (state g new.store.conn) n made.counts (made.closes clean) may))

  -- it is noted by its line, which tells of the command
  pub carried_out : LeavesToldNow g new → (result : Result X StoreFault) → Notes g mid new result command Answers line
      → IsTold g mid new result command → CarriesOut (keeper_of g) old new command Answers result
  carried_out left (Ok x) notes told = record {
    was_clean = λ clean. found.fell (notes.was_clean clean);
    does = λ clean a s.
        let there = found.same a s in
        (told.does clean a there, (notes.obeys clean a there.0 there.1).1);
    crash = crashed notes.was_clean told.crash;
    kept = λ clean a s image may.
        let one = makes_one g new (command a) (told.does clean a (found.same a s)) in
        (one.0, one.1, kept_now g new left clean (notes.«open» clean) one.0 one.2 image may);
  }
  carried_out left (Err f) notes told = record {
    was_clean = λ clean. found.fell (notes.was_clean clean);
    does = λ a s. told.does a (found.same a s);
    crash = crashed notes.was_clean told.crash;
    kept = tt;
  }

-- on a connection that was found open, nothing is done
module _ {S X : Type 0} (g : Ghosts S) (old mid : NotedStore S) (found : IsFoundOpen g old mid)
    (command : Archive → Result Archive ArchiveRefusal) (Answers : Archive → X → Type 0) where
  -- since memory runs out
  pub refused_out : (result : Result X StoreFault) → IsErr result → IsErrAnd result (λ x. x ≡ NoMemory)
      → CarriesOut (keeper_of g) old mid command Answers result
  refused_out result is e_is = stopped g old mid found.same found.fell found.met command Answers result NoMemory is e_is refl

  -- since nothing is to be done
  pub nothing_out : LeavesToldNow g mid → ((a : Archive) → command a ≡ Ok a) → (x : X) → ((a : Archive) → Answers a x)
      → CarriesOut {E = Cause} (keeper_of g) old mid command Answers (Ok x)
  nothing_out left stays x answered = record {
    was_clean = found.fell;
    does = λ clean a s. (subst (Makes (StandsTold g mid)) (sym (stays a)) (found.same a s), answered a);
    crash = λ clean a s fate may. inl (found.met a s clean fate may);
    kept = λ clean a s fate may. (a, stays a, kept_now g mid left clean (found.opened clean) a (found.same a s) fate may);
  }

-- on a connection that was found open, something is read
module _ {S X : Type 0} (g : Ghosts S) (old mid new : NotedStore S) (found : IsFoundOpen g old mid) (Answers : Archive → X → Type 0)
    (Refuses : Archive → ArchiveRefusal → Type 0) where
  still_told : (result : Result X StoreFault) → ReadsWith g mid new result Answers Refuses → (a : Archive) → StandsTold g mid a → StandsTold g new a
  still_told result reads a s = (s.0, reads.lines a s.0 s.1, s.2)

  met_now : (result : Result X StoreFault) → ReadsWith g mid new result Answers Refuses → Met g old new
  met_now result reads = met_read g old mid new found.met found.same found.opened reads.falls reads.crash

  -- and the connection is open still
  pub open_still : (result : Result X StoreFault) → ReadsWith g mid new result Answers Refuses
      → (HasCleanDisk (state g new.store.conn) → IsTrue (state g new.store.conn).is_open) → IsFoundOpen g old new
  open_still result reads opened = record {
    same = λ a s. still_told result reads a (found.same a s);
    fell = λ clean. found.fell (reads.falls clean);
    opened = opened;
    met = met_now result reads;
  }

  -- what is read refuses the command
  pub refused_by : {Y : Type 0} (f : StoreFault) → ReadsWith g mid new (Err f) Answers Refuses → (command : Archive → Result Archive ArchiveRefusal)
      → ((a : Archive) (r : ArchiveRefusal) → Refuses a r → command a ≡ Err r) → (Wanted : Archive → Y → Type 0) → (result : Result Y StoreFault)
      → IsErr result → IsErrAnd result (λ x. x ≡ f) → CarriesOut (keeper_of g) old new command Wanted result
  refused_by f reads command refuses Wanted (Err e) is e_is = record {
    was_clean = λ clean. found.fell (reads.falls clean);
    does = λ a s.
        let there = found.same a s in
        (still_told (Err f) reads a there, λ clean r refused. refuses a r (reads.tells a there.0 there.1 clean r (sym e_is ∙ refused)));
    crash = λ clean a s fate may. inl (met_now (Err f) reads a s clean fate may);
    kept = tt;
  }
  refused_by f reads command refuses Wanted (Ok x) is e_is = absurd (false≢true is)

-- on a connection that was found open, something is read, which the archive never refuses
pub read_out : {S X : Type 0} (g : Ghosts S) (old mid new : NotedStore S) (found : IsFoundOpen g old mid) (Answers : Archive → X → Type 0)
    → LeavesToldNow g new → (result : Result X StoreFault) → ReadsWith g mid new result Answers (λ a r. ⊥)
    → ((a : Archive) → StandsTold g mid a → HasCleanDisk (state g new.store.conn) → IsTrue (state g mid.store.conn).is_open
    → OnOk result (IsTrue (state g new.store.conn).is_open)) → CarriesOut (keeper_of g) old new unchanged Answers result
read_out g old mid new found Answers left (Ok x) reads stays = record {
  was_clean = λ clean. found.fell (reads.falls clean);
  does = λ clean a s.
      let there = found.same a s in
      (still_told g old mid new found Answers (λ b r. ⊥) (Ok x) reads a there, reads.tells a there.0 there.1 clean);
  crash = λ clean a s fate may. inl (met_now g old mid new found Answers (λ b r. ⊥) (Ok x) reads a s clean fate may);
  kept = λ clean a s fate may.
      let there = found.same a s in
      let on = stays a there clean (found.opened (reads.falls clean)) in
      (a, refl, kept_now g new left clean on a (still_told g old mid new found Answers (λ b r. ⊥) (Ok x) reads a there) fate may);
}
read_out g old mid new found Answers left (Err f) reads stays = record {
  was_clean = λ clean. found.fell (reads.falls clean);
  does = λ a s.
      let there = found.same a s in (
        still_told g old mid new found Answers (λ b r. ⊥) (Err f) reads a there,
        λ clean r refused. absurd (reads.tells a there.0 there.1 clean r refused),
      );
  crash = λ clean a s fate may. inl (met_now g old mid new found Answers (λ b r. ⊥) (Err f) reads a s clean fate may);
  kept = tt;
}

-- what is not there is not destroyed
pub no_record : (n : ℕ) (day : ℤ) (a : Archive) (r : ArchiveRefusal) → LacksRecord n a r → destroy_on a n day ≡ Err r
no_record n day a r lacks = ap (destroy_by a n (from_1970 day)) lacks.1 ∙ ap (λ f. Err f) (sym lacks.0)

-- without a path nothing is captured
pub no_paths : (body : List ℕ) (day : ℕ) (paths : List (List ℕ)) → length paths ≡ 0 → (a : Archive) → capture a body day paths ≡ Ok a
no_paths body day [] none a = refl
no_paths body day (q ∷ qs) none a = absurd (omega (arith, none))

pub no_lines : (day : ℕ) (paths : List (List ℕ)) → length paths ≡ 0 → (a : Archive) → [] ≡ capture_lines a day paths
no_lines day [] none a = refl
no_lines day (q ∷ qs) none a = absurd (omega (arith, none))
