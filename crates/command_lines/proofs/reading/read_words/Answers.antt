use Rattle.std.proofs.Common.{subst}
use Rattle.clap.specs.Simple.{HasMatchesOf}
use Rattle.command_lines.specs.Typed.{typed}
use Rattle.command_lines.proofs.reading.read_words.Goals as goal

pub returns-in-Ok : goal.returns-in-Ok
returns-in-Ok c plain =
    subst (λ app. HasMatchesOf app (typed c.args.words.now) c.in-Ok.matches) (c.in_ok-command_of.ensures plain) c.in-Ok.ensures.matches
