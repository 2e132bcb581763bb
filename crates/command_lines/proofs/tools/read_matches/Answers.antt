use Rattle.std.proofs.Common.{sym}
use Rattle.std.proofs.lemmas.Result.{IfOk-weaker}
use Rattle.clap.specs.Matches.{found_of}
use Rattle.command_lines.proofs.tools.read_matches.Goals as goal

pub returns-in-Some : goal.returns-in-Some
returns-in-Some c =
    IfOk-weaker c.command_asked.result _ _ (λ command is. (
      c.in-Some.name.now,
      found_of c.in-Some.asked.now,
      sym c.in-Some.ensures.name,
      sym c.in-Some.ensures.rows,
      is,
    )) c.command_asked.ensures
