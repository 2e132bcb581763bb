-- Which calls of the file system were made. Looks are not among them: they change no file and no name.
use Rattle.std.specs.Prelude.{◌≡◌, ◌⊎◌, ◌++◌, ◌<◌, ℕ, Bool, [], ◌∷◌, true, List, codes, length}

-- A call that changes a name or a file, or that opens a store. It counts as made also where the system refused it.
pub data Call : Type 0 where
  -- Makes an empty file at a path where nothing is, with these permissions.
  create : (path : List ℕ) (mode : ℕ) → Call
  -- Removes the name of a file.
  remove : (path : List ℕ) → Call
  -- Gives a file a second name.
  link : (original path : List ℕ) → Call
  -- Makes the name of the file at a path last over a power cut.
  settle : (path : List ℕ) → Call
  -- Opens the store in the file at a path, whose pages end in sums where the file is new.
  open_store : (path : List ℕ) (new_has_sums : Bool) → Call

-- the permissions of a new store, 0600 in base eight: its owner alone may read and write it (chmod, POSIX.1-2017)
abbrev pub owner_only : ℕ
owner_only = 384

-- nothing was made, or a file at this path for its owner alone
abbrev pub MayMake : (path : List ℕ) → List Call → Type 0
MayMake path calls = (calls ≡ []) ⊎ (calls ≡ create path owner_only ∷ [])

-- The store at this path was opened, with sums where it is new, after a file for its owner alone was made there, or with no
-- other call before or after.
abbrev pub OpensStore : (path : List ℕ) → List Call → Type 0
OpensStore path calls =
    (calls ≡ open_store path true ∷ []) ⊎ (calls ≡ create path owner_only ∷ open_store path true ∷ [])

-- the path of the log beside the file at a path
abbrev pub log_of : List ℕ → List ℕ
log_of path = path ++ codes "-wal"

-- These calls are the first of some. `Named` holds where there is one after the first.
pub record Begins (all : List Call) (Named : Type 0) (calls : List Call) : Type 0 where
  pub rest : List Call
  pub same : calls ++ rest ≡ all
  pub named : 1 < length calls → Named

-- From one moment to another, calls of this kind were made and no others. `made` says which have been made at a moment.
abbrev pub Makes : {F : Type 0} (made : F → List Call → Type 0) (before after : F) (Are : List Call → Type 0) → Type 0
Makes made before after Are = (done : List Call) → made before done → (calls : List Call) × Are calls × made after (done ++ calls)
