-- What disposals come to in stores, on worked rows.
use Rattle.std.specs.Prelude.{Err, Ok}
use Rattle.std.proofs.Common.{◌≡◌, false, refl, true}
use Rattle.cli_console.specs.declared.failure.Failure.TheVariants.{NoMemory}
use Rattle.cli_changes.specs.DisposalTallies.{tally_after}
use Rattle.cli_changes.specs.declared.disposal_tally.DisposalTally.{DisposalTally}

abbrev none : DisposalTally
none = record { is_any = false; is_any_gone = false }

-- a message is gone with a record of the first store, and there is a record in the second one
both_are : tally_after (tally_after none (Ok (record { is_any = true; is_any_gone = true }))) (Ok (record { is_any = true; is_any_gone = false }))
    ≡ record { is_any = true; is_any_gone = true }
both_are = refl

-- the store in which a disposal fails counts for nothing
failed_is : tally_after none (Err NoMemory) ≡ none
failed_is = refl
