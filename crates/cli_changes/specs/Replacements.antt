-- Another plan in the place of that of an archive.
use Rattle.std.specs.Prelude.{◌≡◌, true}
use Rattle.class_plan.specs.Plans.{Listing, keeps}
use Rattle.record_archive.specs.Archive.{Archive}
use Rattle.record_archive.specs.Calls.{Keeper}
use Rattle.cli_changes.specs.Series.{IsSoOf}

-- THE ARCHIVE HAS ANOTHER PLAN. All else is as before.
abbrev pub with_plan : Listing → Archive → Archive
with_plan plan a = record a { plan = plan }

-- A PLAN REPLACES THE PRESENT ONE, of which it has each class, and nothing else changes
abbrev pub Replaces : {A : Type 0} → Keeper A Archive → (old new : A) → Listing → Type 0
Replaces k old new plan = IsSoOf k old new (λ a. k.stands new (with_plan plan a) × (keeps a.plan plan ≡ true))
