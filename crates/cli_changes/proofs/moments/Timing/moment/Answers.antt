use Rattle.std.proofs.Common.{Some, ap, ◌∙◌}
use Rattle.cli_changes.specs.Moments.{later_of}
use Rattle.cli_changes.proofs.moments.Timing.moment.Goals as goal

pub returns-clause-last : goal.returns-clause-last
returns-clause-last c = λ small. ap Some (c.later_of-last.ensures ∙ ap (later_of c.args.self.now.last) (c.capture_day-day.ensures small))
