-- Rows that are looked up by their keys, and the connection after a look.
use Rattle.std.specs.Prelude.{◌≡◌, ◌==◌, ℕ, Bool, false, List, Option, None, Some, option_map, find, if◌then◌else◌, IsTrue, Result, Err}
use Rattle.std.specs.List.{list_any}
use Rattle.sqlite.specs.Store.{Ghosts}
use Rattle.sqlite.specs.State.{HasCleanDisk, Survives}
use Rattle.sqlite.specs.Held.{Held, state}
use Rattle.record_tables.specs.Tables.{IsArchiveSchema}
use Rattle.record_items.specs.Items.{Message, Record}
use Rattle.record_tables.specs.Rows.{Tables}
use Rattle.record_tables.specs.Changes.{is_hold}
use Rattle.record_tables.specs.declared.fault.Fault.{Fault}
use Rattle.record_tables.specs.declared.fault.Fault.TheVariants.{NoArchive}

abbrev pub record_with : ℕ → Tables → Option Record
record_with n t = find (λ (r : Record). r.number == n) t.records

abbrev pub body_with : ℕ → Tables → Option (List ℕ)
body_with n t = option_map (λ (m : Message). m.body) (find (λ (m : Message). m.number == n) t.messages)

abbrev pub live_body_in : Tables → Option Record → Option (List ℕ)
live_body_in t None = None
live_body_in t (Some r) = if r.destroyed then None else body_with r.message t

-- the octets of the message of the record with a number, if it is not destroyed
abbrev pub live_body_with : ℕ → Tables → Option (List ℕ)
live_body_with n t = live_body_in t (record_with n t)

abbrev pub has_hold_of : List ℕ → ℕ → Tables → Bool
has_hold_of name n t = list_any (is_hold name n) t.holds

-- A look at the tables outside a transaction changes nothing and opens no transaction. A disk that is clean after it
-- was clean before. In an archive's tables, a crash leaves what it might have left before the look.
pub record Looks {S : Type 0} (g : Ghosts S) (old new : Held S) : Type 0 where
  pub idle : old.in_transaction ≡ false → new.in_transaction ≡ false
  pub falls : HasCleanDisk (state g new) → HasCleanDisk (state g old)
  pub still : old.in_transaction ≡ false → (IsTrue (state g old).is_open → IsArchiveSchema (state g old).now.schema)
      → HasCleanDisk (state g new) → IsTrue (state g new).is_open → IsTrue (state g old).is_open ×
      ((state g new).now ≡ (state g old).now)
  pub survives : Survives (state g old) (state g new) (λ _. IsArchiveSchema (state g old).now.schema → ⊥)

-- where it finds no archive, the connection was open
abbrev pub WasOpenOnNoArchive : {S T : Type 0} → Ghosts S → (old new : Held S) → Result T Fault → Type 0
WasOpenOnNoArchive g old new result = HasCleanDisk (state g new) → result ≡ Err NoArchive → IsTrue (state g old).is_open
