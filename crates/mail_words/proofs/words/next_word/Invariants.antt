use Rattle.std.proofs.Common.{◌-◌, length}
use Rattle.mail_words.proofs.WordLemmas.{Searched}
use Rattle.mail_words.proofs.words.next_word.Given as goal

abbrev pub invariant-loop-step : goal.invariant-loop-step
invariant-loop-step l = Searched l.text l.from

abbrev pub decreases-loop-step : goal.decreases-loop-step
decreases-loop-step l = length l.text - l.from
