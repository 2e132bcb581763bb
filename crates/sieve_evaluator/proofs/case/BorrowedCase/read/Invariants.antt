use Rattle.std.proofs.Common.{◌≡◌, map, take}
use Rattle.sieve_evaluator.specs.Case.{field_of}
use Rattle.mail_case.specs.Message.{field_in}
use Rattle.sieve_evaluator.proofs.case.BorrowedCase.read.Given as goal

abbrev pub invariant-loop-field : goal.invariant-loop-field
invariant-loop-field g l = map field_of l.fields.items ≡ map field_in (take l.field-index l.field-items)
