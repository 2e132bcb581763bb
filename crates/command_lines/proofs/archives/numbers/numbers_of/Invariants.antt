use Rattle.std.proofs.Common.{◌≡◌, ◌++◌, drop, map}
use Rattle.std.specs.List.{flat_map, list_all}
use Rattle.command_lines.specs.Numbers.{alone_in, are_numbers, of_volumes_in}
use Rattle.command_lines.proofs.archives.numbers.numbers_of.Given as goal

abbrev pub invariant-loop-word : goal.invariant-loop-word
invariant-loop-word l = record {
  alone : l.numbers.alone.items ++ flat_map alone_in (map (λ w. w.now) (drop l.word-index l.typed))
      ≡ flat_map alone_in (map (λ w. w.now) l.typed);
  of_volumes : l.numbers.of_volumes.items ++ flat_map of_volumes_in (map (λ w. w.now) (drop l.word-index l.typed))
      ≡ flat_map of_volumes_in (map (λ w. w.now) l.typed);
  each : list_all are_numbers (map (λ w. w.now) (drop l.word-index l.typed)) ≡ list_all are_numbers (map (λ w. w.now) l.typed);
}
