use Rattle.std.proofs.Common.{◌≡◌, map, take}
use Rattle.record_archive.specs.declared.line.Line.{Line}
use Rattle.cli_changes.proofs.runs.numbers_of.Given as goal

abbrev pub invariant-loop-line : goal.invariant-loop-line
invariant-loop-line l = l.numbers.items ≡ map (λ (x : Line). x.number) (take l.line-index l.lines)
