-- What an open finds, by the archive that the files held.
use Rattle.std.proofs.Common.{◌≡◌, ℕ, true, List, sym, ap, subst, ◌∙◌, inl, inr, arith}
use Rattle.std.proofs.Math.Logic.{∥∥₁_elim}
use Rattle.sqlite_disk.specs.declared.Disk.{Ghosts}
use Rattle.sqlite_store.specs.declared.store.FileStore.{FileStore}
use Rattle.sqlite_store.specs.declared.catalog.Wanted.{Wanted}
use Rattle.sqlite_store.specs.Listing.{IsOurs}
use Rattle.sqlite_pages.specs.PageMap.{PageMap}
use Rattle.sqlite_pool.specs.Stored.{Adopts}
use Rattle.sqlite_catalog.specs.Listing.{IsSound}
use Rattle.sqlite_catalog.proofs.ReadLemmas.{reads, read_once}
use Rattle.sqlite_trees.specs.Objects.{catalog_tree}
use Rattle.sqlite_trees.specs.Props.{Trees-set}
use Rattle.sqlite.specs.Recovery.{Image}
use Rattle.sqlite.specs.Schema.{Schema}
use Rattle.sqlite.specs.Tree.{Trees}
use Rattle.sqlite.specs.Effect.{Database, IsDatabase}
use Rattle.sqlite.specs.Held.{Held}
use Rattle.sqlite.specs.Files.{file_state, HoldsDatabase, IsOpened, IsNothing}
use Rattle.sqlite.specs.Start.{FindsIn}
use Rattle.sqlite.proofs.ListingLemmas.{empty_is_sound}
use Rattle.record_archive.specs.Archive.{Archive}
use Rattle.record_tables.specs.Tables.{IsFree}
use Rattle.record_tables.proofs.Standing.{nothing_is_free}
use Rattle.record_adoption.specs.Adoption.{Finds}
use Rattle.record_files.specs.Files.{FindsAt, HoldsTables, KeepsAt}
use Rattle.record_files.proofs.BlankLemmas.{not_blank}

-- trees are those of one schema
sound_once : (s t : Schema) (db : Trees) → IsSound s db → IsSound t db → s ≡ t
sound_once s t db p q =
    let r = reads (db catalog_tree) s p.lists in
    read_once _ s t r.tables r.indexes r.views (reads (db catalog_tree) t q.lists)

same_database : (x y : Database) → IsSound x.schema x.trees → IsSound y.schema y.trees → x.trees ≡ y.trees → x ≡ y
same_database x y p q trees =
    let schemas = sound_once x.schema y.schema y.trees (subst (IsSound x.schema) trees p) q in
    λ i. record { schema = schemas i; trees = trees i }

pub holds_something : (image : Image) (size : ℕ) (pages : PageMap) (wanted : List Wanted) → Adopts size image pages → IsOurs size true wanted pages
    → IsNothing image → ⊥
holds_something image size pages wanted found ours (inl plain) = not_blank size image pages found ours.file.sound _ (omega arith) plain
holds_something image size pages wanted found ours (inr summed) = not_blank size image pages found ours.file.sound _ (omega arith) summed

-- files that held nothing are opened as a database with no table
pub free_opened : {D : Type 0} {g : Ghosts D} (conn : Held (FileStore D g)) (image : Image) → IsOpened conn
    → FindsIn image (file_state conn) → IsNothing image → IsFree (file_state conn).now.schema
free_opened conn image opened found none =
    let live = opened.1 opened.0.is_open in
    elim found.reads [
      | inl read ↦ absurd (∥∥₁_elim read.4 (λ x y. absurd x) (λ ours. holds_something image read.0 read.1 read.2 read.3 ours none))
      | inr empty ↦
          let plain = sound_once _ _ _ live.1 (empty_is_sound _ empty.1.1) in
          subst IsFree (sym (ap (λ (db : Database). db.schema) opened.0.clean ∙ plain)) nothing_is_free
    ]

-- the connection has the database that the files held
opened_database : {D : Type 0} {g : Ghosts D} (conn : Held (FileStore D g)) (image : Image) (db : Database) → IsOpened conn
    → FindsIn image (file_state conn) → IsDatabase db → ∥ HoldsDatabase image db.trees ∥₁ → (file_state conn).now ≡ db
opened_database conn image db opened found sound held =
    let trees = ∥∥₁_elim held (Trees-set _ _) (found.holds db.trees) in
    opened.0.clean ∙ same_database (file_state conn).committed db (opened.1 opened.0.is_open).1 sound trees

pub holds_tables : {D : Type 0} {g : Ghosts D} (Are : Schema → Type 0) (conn : Held (FileStore D g)) (image : Image) → IsOpened conn
    → FindsIn image (file_state conn) → Are (file_state conn).now.schema → HoldsTables Are image
holds_tables Are conn image opened found are db sound held =
    subst (λ (d : Database). Are d.schema) (opened_database conn image db opened found sound held) are

pub finds_opened : {D : Type 0} {g : Ghosts D} (conn : Held (FileStore D g)) (image : Image) (a : Archive) → IsOpened conn
    → FindsIn image (file_state conn) → FindsAt image a → Finds (file_state conn).now a
finds_opened conn image a opened found (inl held) =
    let Has : Database → Type 0 = λ db. Finds db a in
    subst Has (sym (opened_database conn image held.db opened found held.sound held.held)) held.has
finds_opened conn image a opened found (inr none) = inr (free_opened conn image opened found none.0, none.1)

pub finds_kept : (image : Image) (a : Archive) → KeepsAt a image → FindsAt image a
finds_kept image a keeps =
    let stored = keeps.has.0 in
    inl (record {
      db = keeps.db;
      sound = keeps.sound;
      held = keeps.held;
      has = inl (
        inl (record { tables = stored.tables; stored = stored.stored; keyed = stored.keyed; keeps = stored.keeps }),
        record { plan = keeps.has.1.plan; once = keeps.has.1.once },
      );
    })
