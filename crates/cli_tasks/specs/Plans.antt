-- The plan of an archive of volumes.
use Rattle.std.specs.Prelude.{◌≡◌, ℕ, List}
use Rattle.class_plan.specs.Plans.{Listing}
use Rattle.record_store.specs.declared.store.Store.{Store}
use Rattle.cli_tasks.specs.Works.{EachVolume, InVolume}

-- EACH VOLUME HAS ONE PLAN
abbrev pub HaveOnePlan : {S : Type 0} (IsAt : (path : List ℕ) → Store S → Type 0) (folder : List ℕ) (last : ℕ) → Type 0
HaveOnePlan IsAt folder last = (plan : Listing) × EachVolume last (λ v. InVolume IsAt folder v (λ before after. before.plan ≡ plan))
