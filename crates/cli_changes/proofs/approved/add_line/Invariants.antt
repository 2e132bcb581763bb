use Rattle.std.proofs.Common.{◌≡◌, ◌++◌, drop, map, filter}
use Rattle.cli_changes.specs.Approvals.{before_remark, is_word, line_words}
use Rattle.cli_changes.proofs.approved.add_line.Given as goal

abbrev pub invariant-loop-part : goal.invariant-loop-part
invariant-loop-part l =
    map (λ w. w.now) l.words.items ++ before_remark (filter is_word (map (λ p. p.now) (drop l.part-index l.part-items)))
    ≡ map (λ w. w.now) l.initial.words.items ++ line_words l.line
