-- The calls by which a store is made and gets its name.
use Rattle.std.specs.Prelude.{◌≡◌, ◌⊎◌, ◌++◌, [], ◌∷◌, ℕ, List, true, codes}
use Rattle.record_places.specs.Calls.{Call, create, remove, link, settle, open_store, log_of, owner_only}

-- the store at this path was opened, or no call was made
abbrev pub MayOpen : (path : List ℕ) → List Call → Type 0
MayOpen path calls = (calls ≡ []) ⊎ (calls ≡ open_store path true ∷ [])

-- A store is made at a path: a new file for its owner alone, whose pages end in sums.
abbrev pub making : (path : List ℕ) → List Call
making path = create path owner_only ∷ open_store path true ∷ []

-- the files of the store at a path are removed
abbrev pub removing : (path : List ℕ) → List Call
removing path = remove (log_of path) ∷ remove path ∷ []

-- the path at which a store is made that is to have its place at a path
abbrev pub draft_of : (path : List ℕ) → List ℕ
draft_of path = path ++ codes ".mailfile-new"

-- a store that is whole in one file gets a second name, and then loses the first
abbrev pub placing : (draft path : List ℕ) → List Call
placing draft path = link draft path ∷ remove (log_of draft) ∷ remove draft ∷ settle path ∷ []
