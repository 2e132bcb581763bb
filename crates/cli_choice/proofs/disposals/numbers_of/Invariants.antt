use Rattle.std.proofs.Common.{◌≡◌, ◌++◌, map}
use Rattle.record_archive.specs.Lines.{line_view}
use Rattle.cli_choice.specs.Disposals.{numbers_meant, ranged_numbers}
use Rattle.cli_choice.proofs.disposals.numbers_of.Given as goal

abbrev pub invariant-loop-line : goal.invariant-loop-line
invariant-loop-line l =
    l.numbers.items ++ ranged_numbers l.typed (map line_view l.line-iterator.rest.items) ≡ numbers_meant l.typed (map line_view l.fn.lines.items)
