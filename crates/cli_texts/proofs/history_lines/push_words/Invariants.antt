use Rattle.std.proofs.Common.{◌≡◌, ◌++◌, drop, map}
use Rattle.cli_texts.specs.HistoryLines.{words_in}
use Rattle.cli_texts.proofs.history_lines.push_words.Given as goal

abbrev pub invariant-loop-at : goal.invariant-loop-at
invariant-loop-at l =
    l.line.items ++ words_in l.volume l.places l.at (map (λ w. w.now) (drop l.at l.words))
    ≡ l.initial.line.items ++ words_in l.volume l.places 0 (map (λ w. w.now) l.words)
