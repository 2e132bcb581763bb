-- What the files keep where no session is served.
use Rattle.std.proofs.Common.{◌≡◌, ℕ, true, false, List, Option, Some, None, IfSome, IsTrue, refl, sym, ap, subst, ◌∙◌, inl, inr}
use Rattle.std.proofs.Math.Logic.{∥∥₁_elim, ∥∥₁_map}
use Rattle.sqlite_disk.specs.declared.Disk.{Ghosts}
use Rattle.sqlite_disk.specs.declared.Files.{Files}
use Rattle.sqlite_disk.specs.declared.calls.Calls as calls
use Rattle.sqlite_disk.specs.declared.start.Start as start
use Rattle.sqlite_disk.specs.declared.modelled.Modelled.{Modelled}
use Rattle.sqlite_disk.specs.Modelled.{start_of}
use Rattle.sqlite_disk.specs.Events.{Event, replay}
use Rattle.sqlite_disk.specs.History.{MayLeave}
use Rattle.sqlite_wal.proofs.LogLemmas.{SeenMayStay}
use Rattle.sqlite_std_file.specs.File.{IsFresh}
use Rattle.sqlite_std_file.specs.declared.host.Host.{Host}
use Rattle.sqlite_pool.specs.Stored.{Adopts}
use Rattle.sqlite_pool.proofs.StateLemmas.{clean_is, may_leave_is}
use Rattle.sqlite_store.specs.declared.store.FileStore.{FileStore}
use Rattle.sqlite_store.specs.FileStore.{recovers, view, files as stored_files}
use Rattle.sqlite_store.specs.Unopened.{state_of}
use Rattle.sqlite_store.specs.Laws.{settled_at}
use Rattle.sqlite_trees.specs.Props.{Trees-set}
use Rattle.sqlite_catalog.specs.Listing.{IsSound}
use Rattle.sqlite.specs.Recovery.{Image}
use Rattle.sqlite.specs.WalFiles.{image_at, outcomes}
use Rattle.sqlite.specs.Tree.{Trees}
use Rattle.sqlite.specs.Effect.{Database}
use Rattle.sqlite.specs.State.{HasCleanDisk}
use Rattle.sqlite.specs.Held.{Held, AreDatabases, state}
use Rattle.sqlite.specs.Store.{Ghosts as StoreGhosts}
use Rattle.sqlite.specs.Files.{FailsToOpenFiles, HoldsDatabase, IsCleanLeft, IsEmpty, IsKept, IsNothing, IsOpened, IsUnderWay, LeavesFiles}
use Rattle.sqlite.specs.Files.{file_state, image_of}
use Rattle.sqlite.specs.declared.file.Leftover.{Leftover}
use Rattle.sqlite.specs.declared.file.Leftover.TheVariants as left
use Rattle.sqlite.specs.declared.error.Error.{Error}
use Rattle.sqlite.proofs.FileLemmas.{is_something}
use Rattle.sqlite.proofs.ListingLemmas.{empty_is_sound}
use Rattle.sqlite.proofs.StateLemmas.{survives_then}
use Rattle.sqlite.proofs.Theorems.{opens_again}
use Rattle.record_tables.proofs.Standing.{nothing_is_free}
use Rattle.record_tables.specs.Tables.{no_schema}
use Rattle.record_tables.specs.Steps.{CommitsNothing}
use Rattle.record_archive.specs.Archive.{Archive, empty_archive}
use Rattle.record_adoption.specs.Adoption.{Finds, LeavesArchive}
use Rattle.record_adoption.proofs.AdoptSettled.{finds_again}
use Rattle.record_files.specs.Closing.{HoldsLeft}
use Rattle.record_files.specs.Files.{FindsAt, system_file}
use Rattle.record_files.proofs.OpeningLemmas.{holds_something}
use Rattle.session_files.specs.Unserved.{HoldsStill, KeepsUnserved}
use Rattle.session_files.specs.declared.session.NoSession.TheVariants.{Unopened}
use Rattle.session_files.proofs.RefusalLemmas.{image_first}

-- ---- a database that was opened, and then not taken for an archive

-- a call after it that commits nothing
pub leaves_then : {S : Type 0} (g : StoreGhosts S) (old mid new : Held S) (Is : Archive → Type 0)
    → LeavesArchive g old mid Is → CommitsNothing g mid new → LeavesArchive g old new Is
leaves_then g old mid new Is one two =
    survives_then (state g old) (state g mid) (state g new) _ _ _ (λ clean db left. left) (λ clean db none. absurd none) one two

-- what a crash may leave of the connection that is handed back, by what it might have left before
pub holds_still : {S : Type 0} (g : StoreGhosts S) (old new : Held S) (a : Archive) (image : Image)
    → LeavesArchive g old new (Finds (state g old).now) → HasCleanDisk (state g new) → Finds (state g old).now a
    → HoldsLeft (state g new) image → HoldsStill (state g old) a image
holds_still g old new a image kept clean found holds =
    ∥∥₁_map holds (λ left. (
      left.0,
      elim (kept.crash clean left.0 left.1) [
        | inl before ↦ inl before
        | inr made ↦ inr (record { db = made.db; sound = λ was. made.sound was a found; same = made.same; stored = made.stored a found })
      ],
      left.2,
    ))

-- the connection had just been opened, so a crash before the call left only what was found
pub finds_still : {D : Type 0} {g : Ghosts D} (conn : Held (FileStore D g)) (image : Image) (a : Archive)
    → SeenMayStay g → IsOpened conn → Finds (file_state conn).now a → HoldsStill (file_state conn) a image → ∥ FindsAt image a ∥₁
finds_still conn image a stays opened found holds =
    let on = opened.0.is_open in
    ∥∥₁_map holds (λ it. elim it.1 [
      | inl may ↦
          let same : it.0 ≡ (file_state conn).now.trees =
          settled_at conn.store stays it.0 on may ∙ ap (λ (db : Database). db.trees) (sym opened.0.clean) in
          inl (record {
            db = (file_state conn).now;
            sound = (opened.1 on).0;
            held = ∣ subst (HoldsDatabase image) same it.2 ∣₁;
            has = found;
          })
      | inr kept ↦ inl (record {
        db = kept.db;
        sound = kept.sound (opened.1 on).0;
        held = ∣ subst (HoldsDatabase image) kept.same it.2 ∣₁;
        has = finds_again (file_state conn).now kept.db a found kept.stored;
      })
    ])

-- ---- files that were not opened

-- trees of which none has a row are those of a database with no table
finds_empty : (image : Image) (a : Archive) (trees : Trees) → HoldsDatabase image trees → IsEmpty trees → a ≡ empty_archive → FindsAt image a
finds_empty image a trees held empty is =
    inl (record {
      db = record { schema = no_schema; trees = trees };
      sound = empty_is_sound trees empty.1;
      held = ∣ held ∣₁;
      has = inr (nothing_is_free, is);
    })

module _ {S : Type 0} {g : calls.Ghosts Host} (first : start.Ghosts S) (history : (host : Host) → g.history host ≡ host.log.events) where
  -- a crash leaves a file that was just opened as it was
  fresh_leaves : (f : Modelled Host S g first) (is_log : _) → IsFresh is_log f → (c : List _) → (system_file first).may_leave f c
      → c ≡ start_of first f
  fresh_leaves f is_log fresh c may =
      let Leaves : List Event → Type 0 = λ events. let m = replay (start_of first f) events in MayLeave first.is_mixing m.seen m.synced m.steps c in
      elim (subst Leaves (history f.calls ∙ fresh.1) may) [ inl seen ↦ seen | inr synced ↦ synced ]

  first_left : (files : Files (Modelled Host S g first)) → IsFresh true files.log → IsFresh false files.db → (image : Image)
      → outcomes (system_file first) files.log files.db image → image ≡ image_at first
  first_left files log db image may =
      let logged : image.log ≡ first.log = fresh_leaves files.log true log image.log may.0 ∙ rw log.0 refl in
      let stored : image.db ≡ first.db = fresh_leaves files.db false db image.db may.1 ∙ rw db.0 refl in
      λ i. record { log = logged i; db = stored i }

  module _ (files : Files (Modelled Host S g first)) (log : IsFresh true files.log) (db : IsFresh false files.db) (a : Archive)
      (found : FindsAt (image_at first) a) (image : Image) where
    same : image_of (system_file first) files ≡ image_at first
    same = image_first first history files log db

    as_first : outcomes (system_file first) files.log files.db image → FindsAt image a
    as_first old = subst (λ i. FindsAt i a) (sym (first_left files log db image old)) found

    -- where there was no database
    under_way : IsNothing (image_of (system_file first) files) → IsUnderWay (system_file first) files image → ∥ FindsAt image a ∥₁
    under_way nothing left = elim found [
      | inl held ↦ ∥∥₁_elim held.held squash₁ (λ h. absurd (is_something (image_at first) held.db.trees h (subst IsNothing same nothing)))
      | inr none ↦ elim left [
        | inl old ↦ ∣ as_first old ∣₁
        | inr more ↦ elim more [
          | inl still ↦ ∣ inr (still, none.1) ∣₁
          | inr made ↦ ∥∥₁_map made (λ it. finds_empty image a it.0 it.1 it.2 none.1)
        ]
      ]
    ]

    -- where there was one, whose page size was found
    stands_still : (size : ℕ) → ((trees : Trees) (held : HoldsDatabase (image_at first) trees) → held.0 ≡ size)
        → ¬ IsNothing (image_of (system_file first) files) → IsKept (system_file first) files size image → ∥ FindsAt image a ∥₁
    stands_still size sized something kept = elim found [
      | inl held ↦ ∥∥₁_elim held.held squash₁ (λ h. elim kept.same [
        | inl old ↦ ∣ as_first old ∣₁
        | inr stands ↦
            let e : h.0 ≡ size = sized held.db.trees h in
            let pages = h.2.pages in
            let there = subst (λ i. Adopts size i pages) (sym same) (subst (λ n. Adopts n (image_at first) pages) e h.2.found) in
            let again : Adopts h.0 image pages = subst (λ n. Adopts n image pages) (sym e) (stands.1 pages there) in
            let now : HoldsDatabase image held.db.trees = (
              h.0,
              h.1,
              record {
                pages = pages;
                wanted = h.2.wanted;
                schema = h.2.schema;
                found = again;
                ours = h.2.ours;
                reads = h.2.reads;
                sound = h.2.sound;
              },
            ) in
            ∣ inl (record { db = held.db; sound = held.sound; held = ∣ now ∣₁; has = held.has }) ∣₁
      ])
      | inr none ↦ absurd (something (subst IsNothing (sym same) none.0))
    ]

    -- where a store was made, which lists its trees
    recovers_still : (it : FileStore (Modelled Host S g first) (system_file first)) → IsTrue (view it).is_clean → IsTrue (view it).is_numbered
        → LeavesFiles files (left.Store it) → outcomes (system_file first) (stored_files it).0 (stored_files it).1 image → ∥ FindsAt image a ∥₁
    recovers_still it clean numbered leaves may =
        let left = may_leave_is it.pool image (sym (clean_is it.pool) ∙ clean) may in
        elim found [
          | inl held ↦
              let alike : (trees : Trees) → recovers it trees → trees ≡ held.db.trees = λ trees may_be.
              ∥∥₁_elim held.held (Trees-set _ _) (λ h.
              (leaves trees may_be).1 held.db.trees (subst (λ i. HoldsDatabase i held.db.trees) (sym same) h)) in
              let sound : AreDatabases (recovers it) = λ trees may_be.
              (held.db.schema, subst (IsSound held.db.schema) (sym (alike trees may_be)) held.sound) in
              ∥∥₁_map (opens_again it numbered sound image left) (λ one. inl (record {
                db = held.db;
                sound = held.sound;
                held = ∣ subst (HoldsDatabase image) (alike one.0 one.1) one.2 ∣₁;
                has = held.has;
              }))
          | inr none ↦
              let empty : (trees : Trees) → recovers it trees → IsEmpty trees = λ trees may_be. elim (leaves trees may_be).0 [
                | inl read ↦ absurd (∥∥₁_elim read.4 (λ x y. absurd x) (λ ours.
                    holds_something _ read.0 read.1 read.2 read.3 ours (subst IsNothing (sym same) none.0)))
                | inr nothing ↦ nothing.1
              ] in
              let sound : AreDatabases (recovers it) = λ trees may_be. (no_schema, empty_is_sound trees (empty trees may_be).1) in
              ∥∥₁_map (opens_again it numbered sound image left) (λ one. finds_empty image a one.0 one.2 (empty one.0 one.1) none.1)
        ]

  pub keeps_left : (e : Error) (rest : Option (Leftover (Modelled Host S g first) (system_file first)))
      → IfSome rest (λ rest. (files : Files (Modelled Host S g first)) × IsFresh true files.log × IsFresh false files.db
      × (IsCleanLeft rest → FailsToOpenFiles files rest e × LeavesFiles files rest))
      → (a : Archive) → FindsAt (image_at first) a → KeepsUnserved (image_at first) a (Unopened e rest)
  keeps_left e None cause a found = tt
  keeps_left e (Some (left.Files now)) cause a found = λ clean well image may.
      ∣ as_first cause.0 cause.1 cause.2 a found image ((cause.3 clean).1 image may) ∣₁
  keeps_left e (Some (left.Unopened now)) cause a found = λ clean well image may.
      let left = may_leave_is now.pool image (sym (clean_is now.pool) ∙ clean) may in
      elim (cause.3 clean).1 [
        | inl nothing ↦ under_way cause.0 cause.1 cause.2 a found image nothing.0 (nothing.1 image left)
        | inr some ↦ stands_still cause.0 cause.1 cause.2 a found image (state_of now).page_size well some.0 (some.4 image left)
      ]
  keeps_left e (Some (left.Store now)) cause a found = λ clean well image may.
      recovers_still cause.0 cause.1 cause.2 a found image now clean well (cause.3 clean).1 may
