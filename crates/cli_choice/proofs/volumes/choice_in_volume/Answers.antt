use Rattle.cli_choice.proofs.TypedVolumeLaws.{choices_are_in, have_numbers}
use Rattle.cli_choice.proofs.volumes.choice_in_volume.Goals as goal

pub returns-clause-chosen : goal.returns-clause-chosen
returns-clause-chosen c = choices_are_in c.args.volume c.args.typed.now _ c.in_volume.ensures.asked c.in_volume.ensures.choice

pub returns-clause-numbers : goal.returns-clause-numbers
returns-clause-numbers c = have_numbers c.args.volume c.args.typed.now _ c.in_volume.ensures.choice
