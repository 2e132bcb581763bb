-- What the files hold of the last commit once its connection is given up.
use Rattle.std.proofs.Common.{◌≡◌, ◌<◌, ◌≤◌, ℕ, [], IsTrue, refl, sym, ap, subst, arith}
use Rattle.std.proofs.Math.Logic.{∥∥₁_elim, ∥∥₁_map}
use Rattle.sqlite_disk.specs.declared.Files.{Files}
use Rattle.sqlite_disk.specs.declared.Disk.{Ghosts}
use Rattle.sqlite_wal.specs.PageSize.{IsPageSize, size_in_file}
use Rattle.sqlite_wal.specs.Format.{be32}
use Rattle.sqlite_wal.specs.Recovery.{IsIgnored}
use Rattle.sqlite_wal.proofs.LogLemmas.{SeenMayStay}
use Rattle.sqlite_pool.specs.Stored.{reserved, stored_size, RecoversAs}
use Rattle.sqlite_pool.specs.StoredLaws.{carried, readable}
use Rattle.sqlite_pool.proofs.ProbeLemmas.{size_by_log, size_by_file}
use Rattle.sqlite_pool.proofs.ResealLemmas.{adopts_of}
use Rattle.sqlite_pool.proofs.StateLemmas.{size_is_allowed}
use Rattle.sqlite_trees.specs.Tree.{Trees}
use Rattle.sqlite_store.specs.declared.store.FileStore.{FileStore}
use Rattle.sqlite_store.specs.FileStore.{faults, state, view, reading, recovers, schema_in}
use Rattle.sqlite_store.specs.Laws.{settled_at}
use Rattle.sqlite_store.specs.Listing.{IsOurs}
use Rattle.sqlite.specs.Recovery.{Image}
use Rattle.sqlite.specs.Effect.{Database}
use Rattle.sqlite.specs.State.{IsLive}
use Rattle.sqlite.specs.Held.{Held, AreDatabases}
use Rattle.sqlite.specs.Files.{HoldsDatabase, faults_of, file_state}
use Rattle.record_files.specs.Closing.{HasCause, HoldsBy, HoldsLeft, HoldsNow, IsShut}
use Rattle.record_files.specs.Copying.{AreReadable, HasHindrance}
use Rattle.record_files.specs.declared.closing.Closing.{Closing}
use Rattle.record_files.specs.declared.closing.Closing.TheVariants.{Copied, Logged, Shut}
use Rattle.record_files.specs.declared.closing.Hindrance.TheVariants.{NoMemory, TooLong, Fault}
use denote.Struct.Props.{props}

pub by_closing : (closing : Closing) (Holds : Image → Type 0) (image : Image) → Holds image
    → (closing ≡ Copied → Holds (record image { log = [] })) → HoldsBy closing Holds image
by_closing Copied Holds image both alone = (both, alone refl)
by_closing (Logged why) Holds image both alone = both
by_closing Shut Holds image both alone = tt

-- over a store that lists its trees, and whose outcomes of a crash are databases
module _ {D : Type 0} {g : Ghosts D} (it : FileStore D g) (numbered : IsTrue (view it).is_numbered) (sound : AreDatabases (recovers it)) where
  -- what stands for the pages of such an outcome holds the database that it recovers to
  pub stands : (before image : Image) → (state it).may_leave before → RecoversAs (state it).page_size before image
      → ∥ ((db : Trees) × recovers it db × HoldsDatabase image db) ∥₁
  stands before image may same = ∥∥₁_elim it.safe squash₁ (λ all.
      let found = all before may in
      let db = reading it found.0 in
      let allowed : recovers it db = (before, found.0, may, ∣ found.1 ∣₁, refl) in
      let schema = sound db allowed in
      ∥∥₁_elim (size_is_allowed it.pool) squash₁ (λ size. ∥∥₁_map found.2 (λ ours. let r : (x : Trees) × recovers it x × HoldsDatabase image x = (
        db,
        allowed,
        (
          (state it).page_size,
          size,
          record {
            pages = found.0;
            wanted = schema_in it found.0;
            schema = schema.0;
            found = adopts_of _ image found.0 (carried _ before image same found.0 found.1);
            reads = refl;
            sound = schema.1;
            ours = subst (λ b. IsOurs (state it).page_size b (schema_in it found.0) found.0) numbered ours;
          },
        ),
      ) in r)))

  size_allowed : IsPageSize (stored_size (state it).page_size)
  size_allowed = ∥∥₁_elim (size_is_allowed it.pool) (hlevel props) (λ size. size)

  large : 504 ≤ (state it).page_size
  large = let few : reserved (state it).page_size ≤ 8 = grind arith in omega (arith, few, size_allowed.0)

  -- the headers name the page size, and the pages are whole
  pub are_readable : (image : Image) → (state it).may_leave image → AreReadable image (stored_size (state it).page_size)
  are_readable image may =
      let size = (state it).page_size in
      let by_log : ¬ IsIgnored image.log → stored_size size ≡ be32 image.log 8 = λ seen. ∥∥₁_elim it.safe (hlevel props) (λ all.
      let found = all image may in sym (size_by_log size image found.0 (adopts_of _ image found.0 found.1) seen)) in
      let by_file : IsIgnored image.log → stored_size size ≡ size_in_file image.db = λ ignored. ∥∥₁_elim it.safe (hlevel props) (λ all.
      let found = all image may in
      ∥∥₁_elim found.2 (hlevel props) (λ ours.
      sym (size_by_file size image found.0 (adopts_of _ image found.0 found.1) large ours.file.sound ignored))) in
      record {
        allowed = size_allowed;
        named = (by_log, by_file);
        readable = λ unreadable. ∥∥₁_elim it.safe (λ x y. absurd x) (λ all.
            let found = all image may in readable size image found.0 found.1 unreadable);
      }

-- over an open connection between transactions
module _ {D : Type 0} {g : Ghosts D} (conn : Held (FileStore D g)) (on : IsTrue (view conn.store).is_open) (live : IsLive (file_state conn))
    (settled : (file_state conn).now ≡ (file_state conn).committed) where
  pub holds_now : (image : Image) → ∥ HoldsDatabase image (view conn.store).committed ∥₁ → HoldsNow (file_state conn) image
  holds_now image held = record {
    was_open = on;
    sound = (live on).0;
    held = subst (λ db. ∥ HoldsDatabase image db ∥₁) (ap (λ (db : Database). db.trees) (sym settled)) held;
  }

  -- what stands for a crash of a store that has no new outcome
  pub left_now : SeenMayStay g → (it : FileStore D g) → IsTrue (view it).is_numbered → AreDatabases (recovers it)
      → ((db : Trees) → recovers it db → recovers conn.store db) → (before image : Image) → (state it).may_leave before
      → RecoversAs (state it).page_size before image → HoldsNow (file_state conn) image
  left_now stays it numbered sound outcomes before image may same =
      holds_now image (∥∥₁_map (stands it numbered sound before image may same) (λ left.
      subst (HoldsDatabase image) (settled_at conn.store stays left.0 on (outcomes left.0 left.1)) left.2))

-- what stands for a crash of a numbered store that has no new outcome
pub left_some : {D : Type 0} {g : Ghosts D} (conn : Held (FileStore D g)) (it : FileStore D g) → IsTrue (view it).is_numbered
    → AreDatabases (recovers it) → ((db : Trees) → recovers it db → recovers conn.store db) → (before image : Image)
    → (state it).may_leave before → RecoversAs (state it).page_size before image → HoldsLeft (file_state conn) image
left_some conn it numbered sound outcomes before image may same =
    ∥∥₁_map (stands it numbered sound before image may same) (λ left. (left.0, outcomes left.0 left.1, left.2))

-- what hindered the copy is the cause that is reported
pub by_hindrance : {D : Type 0} (g : Ghosts D) (before : ℕ) (old new : Files D) (last : FileStore D g) → (state last).faults ≡ faults_of g old
    → before ≤ faults last → (closing : Closing) → HasHindrance g old new closing → HasCause g before new closing
by_hindrance g before old new last same counted Copied h = tt
by_hindrance g before old new last same counted (Logged NoMemory) h = tt
by_hindrance g before old new last same counted (Logged TooLong) h = h
by_hindrance g before old new last same counted (Logged Fault) h = record { last = last; counted = counted; failed = omega (arith, h, same) }
by_hindrance g before old new last same counted Shut h = absurd h

-- A store is shut only by a fault, whether the fault fell before its end or then.
pub by_fault : {D : Type 0} (g : Ghosts D) (before : ℕ) (left : Files D) (closing : Closing) → HasCause g before left closing → HasCause
    g 0 left closing
by_fault g before left Copied cause = tt
by_fault g before left (Logged NoMemory) cause = tt
by_fault g before left (Logged TooLong) cause = cause
by_fault g before left (Logged Fault) cause = record { last = cause.last; counted = omega arith; failed = cause.failed }
by_fault g before left Shut cause = (cause.0, cause.1, omega (arith, cause.2))

pub by_count : {D : Type 0} (g : Ghosts D) (before : ℕ) (left : Files D) (closing : Closing) → IsShut g before left closing → 0 < before
    → HasCause g 0 left closing
by_count g before left closing shut some =
    subst (HasCause g 0 left) (sym shut.told) (shut.last, shut.same, omega (arith, shut.counted, some))
