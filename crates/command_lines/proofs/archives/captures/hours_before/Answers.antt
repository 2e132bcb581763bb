use Rattle.std.proofs.Common.{◌≡◌, pos, ◌*ℤ◌, arith, ◌∙◌}
use Rattle.jiff.specs.Words.{epoch_day, signed_nanos}
use Rattle.jiff.proofs.SpanFacts.{signed_arith}
use Rattle.command_lines.proofs.MomentLemmas.{epoch_day-zero}
use Rattle.command_lines.proofs.archives.captures.hours_before.Goals as goal

pub returns : goal.returns
returns c =
    let start = epoch_day-zero c.date.result c.date.ensures.0 c.date.ensures.1 c.date.ensures.2 in
    let nanos : signed_nanos c.duration_until.result ≡ epoch_day c.args.day *ℤ pos 86400000000000 =
    c.duration_until.ensures ∙ rw start (omega (arith, signed_arith)) in
    omega (arith, signed_arith, rw nanos at c.as_hours.ensures)
