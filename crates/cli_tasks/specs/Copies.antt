-- Copies of archives, and of archives of volumes.
use Rattle.std.specs.Prelude.{◌≡◌, ◌++◌, ℕ, false, List, codes}
use Rattle.sqlite.specs.Store.{Ghosts}
use Rattle.sqlite.specs.Held.{Held}
use Rattle.choice_words.specs.Readings.{reads_as_any_numbers}
use Rattle.class_plan.specs.Plans.{Listing}
use Rattle.cli_volumes.specs.Names.{draft_of, path_of}
use Rattle.record_copy.specs.Copies.{Copies}
use Rattle.record_store.specs.declared.store.Store.{Store}
use Rattle.cli_tasks.specs.Works.{EachVolume, InVolume, IsDone}

-- the path of the draft of an archive that is to have its place at a path
abbrev pub draft_at : (path : List ℕ) → List ℕ
draft_at path = path ++ codes ".mailfile-new"

module _ {S T : Type 0} (g : Ghosts S) (h : Ghosts T) where
  -- A DRAFT IS FILLED with the archive of this plan that a database has, and then with its history, of which nothing is said here
  abbrev pub FillsWith : (plan : Listing) → (from from_after : Held S) → (draft : Store T) → (left : Held T) → Type 0
  FillsWith plan from from_after draft left = (filled : Held T) × Copies g h plan from from_after draft.conn filled

  -- THE ARCHIVE OF A STORE IS COPIED to the draft for a path, with the plan that it has once it was read
  pub record CopiesTo (IsAt : (path : List ℕ) → Store T → Type 0) (path : List ℕ) (before : Store S) (after : Held S) : Type 0 where
    pub read : Store S
    pub copied : IsDone (IsAt (draft_at path)) (FillsWith read.plan read.conn after)

module _ {S : Type 0} (g : Ghosts S) (IsAt : (path : List ℕ) → Store S → Type 0) (folder : List ℕ) where
  -- a volume is copied to its place in another folder
  abbrev pub CopiesIn : (new : List ℕ) → (volume : ℕ) → Type 0
  CopiesIn new v = InVolume IsAt folder v (CopiesTo g g IsAt (path_of new v))

  -- EACH VOLUME IS COPIED to its place in the draft of a new folder, the path of which does not read as numbers of records
  pub record CopiesOver (new : List ℕ) (last : ℕ) : Type 0 where
    pub named : reads_as_any_numbers new ≡ false
    pub each : EachVolume last (CopiesIn (draft_of new))
