-- A delivery by the officer whose name is given as text.
use Rattle.std.proofs.Common.{◌≡◌, ℕ, List, Result, subst}
use Rattle.desk_commands.specs.declared.fault.DeskFault.{DeskFault}
use Rattle.filing_desk.specs.Deliveries.{Delivers}
use Rattle.filing_desk.specs.Standing.{desk_keeper}
use Rattle.filing_desk.specs.declared.deliveries.Delivery.{Delivery}
use Rattle.filing_desk.specs.declared.deliveries.OnFault.{OnFault}
use Rattle.filing_desk.specs.declared.desk.Desk.{Desk}
use Rattle.record_archive.specs.Archive.{Archive}
use Rattle.record_archive.specs.Calls.{Keeper}
use Rattle.cli_changes.specs.Deliveries.{IsDelivered}
use Rattle.cli_changes.specs.declared.time_limit.TimeLimit.{TimeLimit}

pub delivered_for : {A : Type 0} (keeper : Keeper A Archive) (desk after : Desk A) (name officer : List ℕ) (moment : ℕ) (octets : List ℕ)
    (on_fault : OnFault) (done : Result Delivery DeskFault) (begun left : TimeLimit) → name ≡ officer
    → Delivers (desk_keeper keeper) (λ _ _ _. Unit {0}) desk name moment octets on_fault begun done left after
    → IsDelivered keeper desk officer moment octets on_fault done after
delivered_for keeper desk after name officer moment octets on_fault done begun left same delivers = (
  begun,
  left,
  subst (λ o. Delivers (desk_keeper keeper) (λ _ _ _. Unit {0}) desk o moment octets on_fault begun done left after) same delivers,
)
