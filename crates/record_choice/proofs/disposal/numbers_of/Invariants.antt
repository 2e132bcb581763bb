use Rattle.std.proofs.Common.{◌≡◌, map, take}
use Rattle.record_archive.specs.Archive as archive
use Rattle.record_archive.specs.Lines.{line_view}
use Rattle.record_choice.proofs.disposal.numbers_of.Given as goal

abbrev pub invariant-loop-line : goal.invariant-loop-line
invariant-loop-line l =
    l.numbers.items ≡ map (λ (x : archive.Line). x.number) (map line_view (take l.line-index l.lines))
