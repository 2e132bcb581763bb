-- What is looked at of a file before it is opened, and what is found right.
use Rattle.std.specs.Prelude.{◌≡◌, ◌++◌, ℕ, Bool, true, false, List, codes, ◌==◌, ◌&&◌, ◌||◌, bit_and}
use Rattle.std.specs.Int.{bit_not, w32}
use Rattle.record_places.specs.Calls.{log_of}
use Rattle.record_places.specs.declared.standing.Standing.{Standing}

-- all of these permissions are given
abbrev pub gives : (mode permissions : ℕ) → Bool
gives mode permissions = bit_and mode permissions == permissions

-- the permissions of a file's group to read and write it, and those of all to read, write and execute it (chmod, POSIX.1-2017)
abbrev pub group_access : ℕ
group_access = 0o060

abbrev pub all_access : ℕ
all_access = 0o777

-- the permissions of one file let nobody do what those of another do not let them do
abbrev pub is_within : (mode other : ℕ) → Bool
is_within mode other = bit_and (bit_and mode (bit_not w32 other)) all_access == 0

-- a regular file with one name
abbrev pub may_be_store : Standing → Bool
may_be_store file = file.is_file && (file.links == 1)

-- A log lets nobody do what its store does not let them do. It is the store's owner's, or that of a member of the store's group, where
-- that may read and write the store. A log of another group lets its group neither read nor write.
abbrev pub is_as_private : (log store : Standing) → Bool
is_as_private log store =
    log.is_file
    && ((log.owner == store.owner) || ((log.group == store.group) && gives store.mode group_access))
    && is_within log.mode store.mode
    && ((log.group == store.group) || (bit_and log.mode group_access == 0))

module _ {F : Type 0} where
  -- a look has found a file that may be a store
  abbrev pub FindsStore : (finds : F → List ℕ → Standing → Type 0) → F → (path : List ℕ) → Type 0
  FindsStore finds files path = (store : Standing) × finds files path store × (may_be_store store ≡ true)

  -- A look at the place of the store's log has shown a log that is as private as the store, or else none.
  abbrev pub HasJudged : (leads : F → List ℕ → Standing → List ℕ → Type 0) → (shows : F → List ℕ → Standing → Type 0)
      → (lacks : F → List ℕ → Type 0) → F → (path : List ℕ) → (there : Bool) → Type 0
  HasJudged leads shows lacks files path true =
      (store : Standing) × (log : Standing) × (place : List ℕ) × leads files path store place × shows files place log × (is_as_private log store ≡ true)
  HasJudged leads shows lacks files path false = (store : Standing) × (place : List ℕ) × leads files path store place × lacks files place

  -- looks have shown that nothing is at a path, and that no log or journal is beside it
  abbrev pub IsFreePlace : (lacks : F → List ℕ → Type 0) → F → (path : List ℕ) → Type 0
  IsFreePlace lacks files path = lacks files path × lacks files (log_of path) × lacks files (path ++ codes "-journal")
