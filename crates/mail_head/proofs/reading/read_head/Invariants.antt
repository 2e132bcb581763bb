use Rattle.std.proofs.Common.{◌≡◌, ◌++◌, length}
use Rattle.mail_head.specs.Fields.{fields_of}
use Rattle.mail_head.proofs.reading.read_head.Given as goal

abbrev pub invariant-loop-found : goal.invariant-loop-found
invariant-loop-found l = l.fields.items ++ fields_of l.rest ≡ fields_of l.fn.msg

abbrev pub decreases-loop-found : goal.decreases-loop-found
decreases-loop-found l = length l.rest
