use Rattle.std.proofs.Common.{◌≡◌, map, length}
use Rattle.session_words.specs.Verbs.{verb_in}
use Rattle.session_words.proofs.verbs.verb_in.Given as goal

abbrev pub invariant-loop-table : goal.invariant-loop-table
invariant-loop-table l = verb_in (map (λ row. (row.0.now, row.1)) l.table) l.word ≡ verb_in (map (λ row. (row.0.now, row.1)) l.fn.table) l.word

abbrev pub decreases-loop-table : goal.decreases-loop-table
decreases-loop-table l = length l.table
