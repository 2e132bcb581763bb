-- For what a history is opened: whether it requires reasons for that, and whether it can end the keeping of records.
use Rattle.std.specs.Prelude.{ℕ, ◌==◌, ◌&&◌, Bool, true, false, List, length}
use Rattle.record_history.specs.Events.{Deed, ReasonsRequired, ReasonsOptional}
use Rattle.cli_history.specs.declared.opening.Purpose.{Purpose}
use Rattle.cli_history.specs.declared.opening.Purpose.TheVariants.{Listing, Capturing, Keeping, Ending}

-- REASONS ARE REQUIRED after a deed, by whether they were before it
abbrev pub are_required : Bool → Deed → Bool
are_required before ReasonsRequired = true
are_required before ReasonsOptional = false
are_required before deed = before

-- an archive is changed for a purpose
abbrev pub changes : Purpose → Bool
changes Listing = false
changes Capturing = true
changes Keeping = true
changes Ending = true

-- a reason may be required for it
abbrev pub decides : Purpose → Bool
decides Listing = false
decides Capturing = false
decides Keeping = true
decides Ending = true

-- it can end the keeping of records
abbrev pub ends : Purpose → Bool
ends Listing = false
ends Capturing = false
ends Keeping = false
ends Ending = true

-- A REASON IS LACKING: one is required, and none is given
abbrev pub lacks_reason : Purpose → (is_required : Bool) → (reason : List ℕ) → Bool
lacks_reason p is_required reason = decides p && (is_required && (length reason == 0))
