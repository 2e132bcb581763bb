use Rattle.std.proofs.Common.{◌≡◌, ◌++◌, drop, flat_map, map}
use Rattle.std.specs.List.{find, list_all}
use Rattle.command_lines.specs.Numbers.{alone_in, are_numbers, of_volumes_in}
use Rattle.cli_changes.specs.Approvals.{is_other}
use Rattle.cli_changes.proofs.approved.numbers_of.Given as goal

abbrev pub invariant-loop-word : goal.invariant-loop-word
invariant-loop-word l = record {
  alone : l.numbers.alone.items ++ flat_map alone_in (map (λ w. w.now) (drop l.word-index l.words))
      ≡ flat_map alone_in (map (λ w. w.now) l.words);
  of_volumes : l.numbers.of_volumes.items ++ flat_map of_volumes_in (map (λ w. w.now) (drop l.word-index l.words))
      ≡ flat_map of_volumes_in (map (λ w. w.now) l.words);
  each : list_all are_numbers (map (λ w. w.now) (drop l.word-index l.words)) ≡ list_all are_numbers (map (λ w. w.now) l.words);
  refused : find is_other (map (λ w. w.now) (drop l.word-index l.words)) ≡ find is_other (map (λ w. w.now) l.words);
}
