use Rattle.std.proofs.Common.{◌≡◌, false, take}
use Rattle.std.specs.List.{list_any}
use Rattle.sieve_meaning.specs.Case.{is_named}
use Rattle.filing_machine.proofs.fields.has_field.Given as goal

abbrev pub invariant-loop-field : goal.invariant-loop-field
invariant-loop-field g l = list_any (is_named l.name) (take l.field (g.C.Case.facts l.case).fields) ≡ false
