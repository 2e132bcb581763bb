use Rattle.std.proofs.Common.{length}
use Rattle.mail_display.proofs.QuestionLemmas.{Judging}
use Rattle.mail_display.proofs.question.FieldQuestion.judge.Given as goal

abbrev pub invariant-loop-found : goal.invariant-loop-found
invariant-loop-found l = Judging l.self l.message l.rest l.seen l.unread

abbrev pub decreases-loop-found : goal.decreases-loop-found
decreases-loop-found l = length l.rest
