use Rattle.std.proofs.Common.{sym, ◌∙◌, arith}
use Rattle.record_rows.proofs.Loops.{holds-all}
use Rattle.record_rows.proofs.archive_rules.do_holds_rise.Goals as goal

pub returns : goal.returns
returns c = sym (c.loop-i.invariant ∙ holds-all c.args.holds.now c.loop-i.i (omega arith))
