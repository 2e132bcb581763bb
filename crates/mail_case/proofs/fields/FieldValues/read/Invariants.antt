use Rattle.std.proofs.Common.{length}
use Rattle.mail_case.proofs.ValueLemmas.{Reading}
use Rattle.mail_case.proofs.fields.FieldValues.read.Given as goal

abbrev pub invariant-loop-found : goal.invariant-loop-found
invariant-loop-found l = Reading l.text l.rest l.octets.items l.ends.items

abbrev pub decreases-loop-found : goal.decreases-loop-found
decreases-loop-found l = length l.rest
