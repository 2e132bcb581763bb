use Rattle.promises.proofs.InFlight.{all_pinned}
use Rattle.promises.proofs.Pinned.{alone, within_budget}
use Rattle.promises.proofs.Sources.{stood_at_beginning}
use Rattle.promises.proofs.laws.captures_are_pinned.Goals as goal

pub returns-clause-at_begin : goal.returns-clause-at_begin
returns-clause-at_begin c = λ a x t f. stood_at_beginning a x.commands x.answers x.new t f x.run

pub returns-clause-pinned : goal.returns-clause-pinned
returns-clause-pinned c = all_pinned

pub returns-clause-budget : goal.returns-clause-budget
returns-clause-budget c = within_budget c.every_run_ends.ensures.ends c.a_run_ends_once.ensures.steps

pub returns-clause-alone : goal.returns-clause-alone
returns-clause-alone c = alone c.pinned_runs_end_alone.ensures.alone c.a_run_ends_once.ensures.steps
