use Rattle.std.proofs.Common.{◌∙◌}
use Rattle.mail_display.proofs.QuestionLemmas.{Judging-none, Judging-done}
use Rattle.mail_display.proofs.question.FieldQuestion.judge.Goals as goal

pub loop-found-init : goal.loop-found-init
loop-found-init c = rw c.unasked-seen.ensures (Judging-none c.args.self.now c.args.message.now)

pub returns-clause-found : goal.returns-clause-found
returns-clause-found c =
    c.is_all.ensures ∙ Judging-done c.args.self.now c.args.message.now c.loop-found.rest.now c.loop-found.seen c.loop-found.unread
    c.loop-found.invariant c.in_default.ensures
