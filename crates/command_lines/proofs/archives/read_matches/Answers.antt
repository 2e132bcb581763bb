use Rattle.std.proofs.Common.{sym}
use Rattle.std.proofs.lemmas.Result.{IfOk-weaker}
use Rattle.clap.specs.Matches.{found_of}
use Rattle.command_lines.proofs.archives.read_matches.Goals as goal

pub returns-in-Some : goal.returns-in-Some
returns-in-Some c =
    IfOk-weaker c.line_asked.result _ _ (λ line is. (
      c.in-Some.name.now,
      found_of c.in-Some.asked.now,
      sym c.in-Some.ensures.name,
      sym c.in-Some.ensures.rows,
      is,
    )) c.line_asked.ensures
