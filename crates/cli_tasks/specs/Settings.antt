-- Another plan for an archive of volumes.
use Rattle.std.specs.Prelude.{ℕ, List}
use Rattle.class_plan.specs.Plans.{Listing}
use Rattle.command_lines.specs.declared.archives.histories.Attribution.{Attribution}
use Rattle.sqlite.specs.Store.{Ghosts}
use Rattle.record_store.specs.declared.store.Store.{Store}
use Rattle.cli_tasks.specs.Changes.{JudgesPlan}
use Rattle.cli_tasks.specs.Commands.{ChangesAsTold, ChangesBy, ReplacesPlanBy, well}
use Rattle.cli_tasks.specs.Purposes.{for_plan}
use Rattle.cli_tasks.specs.Works.{EachVolume, InVolume}
use Rattle.cli_tasks.specs.declared.changes.Changing.{Changing}

module _ {S : Type 0} (g : Ghosts S) (IsAt : (path : List ℕ) → Store S → Type 0) (folder : List ℕ) where
  module _ (told : Attribution) where
    -- a change is made in a volume, by an author whom the command line tells
    abbrev pub ChangesIn : Changing → (volume : ℕ) → Type 0
    ChangesIn change v = InVolume IsAt folder v (λ before after. ChangesBy g told before after change)

    -- the plan of a volume is replaced by this one
    abbrev pub ReplacesPlanIn : Listing → (volume : ℕ) → Type 0
    ReplacesPlanIn plan v = InVolume IsAt folder v (λ before after. ReplacesPlanBy g told before after plan)

    -- a plan is found to be one that may replace that of a volume, in a ledger that is opened as for that
    abbrev pub JudgesPlanIn : Listing → (volume : ℕ) → Type 0
    JudgesPlanIn plan v = InVolume IsAt folder v (λ before after.
        ChangesAsTold g told before after (for_plan before.plan plan) (λ old new seals. JudgesPlan g old new well plan))

    -- THE PLAN OF EACH VOLUME IS REPLACED by one plan, which was found in each to have all classes of that volume
    pub record ReplacesPlanOver (last : ℕ) : Type 0 where
      pub plan : Listing
      pub judged : EachVolume last (JudgesPlanIn plan)
      pub each : EachVolume last (ReplacesPlanIn plan)
