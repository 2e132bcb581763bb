use Rattle.filing_machine.proofs.PlaceLemmas.{AreNamed}
use Rattle.filing_machine.proofs.fields.fields_named.Given as goal

abbrev pub invariant-loop-field : goal.invariant-loop-field
invariant-loop-field g l = AreNamed (g.C.Case.facts l.case) l.name l.fields l.field
