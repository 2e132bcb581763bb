-- Which files are found right, by examples.
use Rattle.std.proofs.Common.{◌≡◌, ℕ, Bool, true, false, List, [], ◌∷◌, map, refl}
use Rattle.record_places.specs.Looks.{is_as_private, may_be_store}
use Rattle.record_places.specs.declared.standing.Standing.{Standing}

-- a regular file with one name, of this owner and group
abbrev file : (owner group mode : ℕ) → Standing
file owner group mode = record { is_file = true; links = 1; octets = 4096; owner = owner; group = group; mode = mode }

abbrev ours : ℕ → Standing
ours = file 1000 100

stores_are : map may_be_store (ours 0o600 ∷ record (ours 0o600) { links = 2 } ∷ record (ours 0o600) { is_file = false } ∷ []) ≡
    true ∷ false ∷ false ∷ []
stores_are = refl

-- the owner's own log: as open as the store, or less
own_logs_are : map (λ mode. is_as_private (ours mode) (ours 0o640)) (0o640 ∷ 0o600 ∷ 0o644 ∷ 0o660 ∷ 0o666 ∷ []) ≡
    true ∷ true ∷ false ∷ false ∷ false ∷ []
own_logs_are = refl

-- a log of another owner, who may read and write the store by its group, or may not
logs_of_members : map (λ mode. is_as_private (file 1001 100 0o660) (ours mode)) (0o660 ∷ 0o664 ∷ 0o640 ∷ 0o600 ∷ []) ≡
    true ∷ true ∷ false ∷ false ∷ []
logs_of_members = refl

-- the owner's log in another group: that may not read it
logs_of_groups : map (λ mode. is_as_private (file 1000 101 mode) (ours 0o660)) (0o600 ∷ 0o640 ∷ 0o660 ∷ []) ≡ true ∷ false ∷ false ∷ []
logs_of_groups = refl

-- a log of another owner and group, and a link in place of a log
logs_of_others : is_as_private (file 1001 101 0o600) (ours 0o600) ∷ is_as_private (record (ours 0o600) { is_file = false }) (ours 0o600) ∷ [] ≡
    false ∷ false ∷ []
logs_of_others = refl
