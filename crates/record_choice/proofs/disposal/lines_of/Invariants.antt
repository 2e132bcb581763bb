use Rattle.std.proofs.Common.{◌≡◌, ◌++◌, map, filter}
use Rattle.record_archive.specs.Archive.{Line}
use Rattle.record_archive.specs.Lines.{line_view}
use Rattle.record_choice.specs.Disposals.{is_one_of}
use Rattle.record_choice.proofs.disposal.lines_of.Given as goal

abbrev pub invariant-loop-line : goal.invariant-loop-line
invariant-loop-line l =
    map line_view l.kept.items ++ filter (λ (x : Line). is_one_of l.numbers x.number) (map line_view l.line-iterator.rest.items)
    ≡ filter (λ (x : Line). is_one_of l.numbers x.number) (map line_view l.fn.lines.items)
