use Rattle.std.proofs.Common.{◌≡◌, map, drop}
use Rattle.std.specs.Cmp.Lexicographic.{pointwise}
use Rattle.record_tables.specs.CodeRows.{due_of}
use Rattle.record_reads.specs.StoredDues.{shows_due}
use Rattle.record_reads.proofs.stored_dues.show_dues.Given as goal

abbrev pub invariant-loop-i : goal.invariant-loop-i
invariant-loop-i l = pointwise shows_due l.rows (map due_of l.dues) ≡ pointwise shows_due (drop l.i l.rows) (map due_of (drop l.i l.dues))
