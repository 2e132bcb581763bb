use Rattle.cli_tasks.proofs.volume_readings.judge_typed_choice.Goals as goal

pub returns-clause-numbers : goal.returns-clause-numbers
returns-clause-numbers c = record { none = c.in_ok-judge_numbers.ensures.none; within = c.in_ok-judge_numbers.ensures.within }

pub returns-clause-asked : goal.returns-clause-asked
returns-clause-asked c = record { test = c.in_ok-questions.ensures.test; fields = c.in_ok-questions.ensures.fields }
