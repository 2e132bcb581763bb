use Rattle.std.proofs.Common.{◌≡◌, ◌++◌, drop, map, flat_map}
use Rattle.cli_changes.specs.Approvals.{file_words, line_words}
use Rattle.cli_changes.proofs.approved.words_of.Given as goal

abbrev pub invariant-loop-line : goal.invariant-loop-line
invariant-loop-line l =
    map (λ w. w.now) l.words.items ++ flat_map line_words (map (λ p. p.now) (drop l.line-index l.line-items)) ≡ file_words l.text
