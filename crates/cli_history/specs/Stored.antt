-- The seals that the messages of a store have.
use Rattle.std.specs.Prelude.{ℕ, Bool, false, option_map, Option, Some, None}
use Rattle.std.specs.Ordering.{nat_cmp}
use Rattle.std.specs.BTreeMap.{get}
use Rattle.record_history.specs.Events.{Seal}
use Rattle.record_history.specs.Views.{seal_view}
use Rattle.cli_history.specs.declared.stored.StoredSeals.{StoredSeals}
use Rattle.cli_history.specs.Seals.{is_seal}

-- THE SEAL OF A MESSAGE as the store has it, if it was made
abbrev pub stored : StoredSeals → ℕ → Option Seal
stored s message = option_map seal_view (get nat_cmp s.made message)

-- a seal was made, and is that one
abbrev pub is_stored_as : Seal → Option Seal → Bool
is_stored_as seal None = false
is_stored_as seal (Some made) = is_seal made seal
