use Rattle.std.proofs.Common.{Some, None, subst, refl}
use Rattle.clap.specs.Matches.{found_of}
use Rattle.command_lines.specs.Tasks.{IsJudged}
use Rattle.command_lines.proofs.archives.histories.history_asked.Goals as goal

pub returns-in-Some : goal.returns-in-Some
returns-in-Some c = (
  c.in_ok-events.events,
  Some c.in-Some.change,
  c.in_ok-events.ensures,
  subst (IsJudged (found_of c.args.asked.now) c.in_ok-events.events) c.in-Some.is c.in_ok-change.ensures,
  c.task_of.ensures,
)

pub returns : goal.returns
returns c = (
  c.in_ok-events.events,
  None,
  c.in_ok-events.ensures,
  subst (IsJudged (found_of c.args.asked.now) c.in_ok-events.events) c.in-None.is c.in_ok-change.ensures,
  refl,
)
