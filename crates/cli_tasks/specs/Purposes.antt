-- For what the ledger of an archive is opened: ending where keeping can end, and keeping where it can not.
use Rattle.std.specs.Prelude.{Bool, true, false, if◌then◌else◌}
use Rattle.class_plan.specs.Plans.{Listing}
use Rattle.cli_choice.specs.declared.holds.Change.{Change}
use Rattle.cli_choice.specs.declared.holds.Change.TheVariants as hold
use Rattle.cli_changes.specs.Keeping.{keeps_less}
use Rattle.cli_history.specs.declared.opening.Purpose.{Purpose}
use Rattle.cli_history.specs.declared.opening.Purpose.TheVariants as purpose
use Rattle.cli_tasks.specs.declared.changes.ChosenChange.{ChosenChange}
use Rattle.cli_tasks.specs.declared.changes.ChosenChange.TheVariants.{Hold, Refile}
use Rattle.cli_tasks.specs.declared.changes.Changing.{Changing}
use Rattle.cli_tasks.specs.declared.changes.Changing.TheVariants.{ReplacePlan, Dispose, Chosen, ReleaseAll}

-- a plan that keeps less of a class ends the keeping of records
abbrev pub for_plan : (present new : Listing) → Purpose
for_plan present new = if keeps_less present new then purpose.Ending else purpose.Keeping

-- a disposal that destroys nothing is a list
abbrev pub for_disposal : (destroys : Bool) → Purpose
for_disposal true = purpose.Ending
for_disposal false = purpose.Listing

abbrev pub for_hold : Change → Purpose
for_hold hold.Place = purpose.Keeping
for_hold hold.End = purpose.Ending

abbrev pub for_chosen : ChosenChange → Purpose
for_chosen (Hold change name) = for_hold change
for_chosen (Refile refiling) = purpose.Ending

-- THE PURPOSE OF A CHANGE of an archive with this plan
abbrev pub purpose_of : Changing → (present : Listing) → Purpose
purpose_of (ReplacePlan plan path is_agreed) present = for_plan present plan
purpose_of (Dispose asked day) present = for_disposal asked.destroys
purpose_of (Chosen change choice questions) present = for_chosen change
purpose_of (ReleaseAll name is_agreed) present = purpose.Ending
