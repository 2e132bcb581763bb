use Rattle.std.proofs.Common.{◌≡◌, ◌++◌, map, take}
use Rattle.tool_inquiry.specs.Inquiries.{script_sum, sum_in}
use Rattle.tool_inquiry.proofs.answers.add_digests.Given as goal

abbrev pub invariant-loop-script : goal.invariant-loop-script
invariant-loop-script l = map sum_in l.digests.items ≡ map sum_in l.initial.digests.items ++ map script_sum (take l.script-index l.scripts)
