use Rattle.std.proofs.Common.{refl, sym, ◌+◌, ◌∙◌}
use Rattle.record_history.specs.Views.{event_view}
use Rattle.record_judge.proofs.JudgeLemmas.{taken}
use Rattle.record_judge.proofs.judge.Judge.take.Goals as goal

pub returns-in-Err : goal.returns-in-Err
returns-in-Err c = λ ls judged. c.in-Err.ensures.err c.args.number c.args.mark.now

pub returns-in-Err-do_again : goal.returns-in-Err-do_again
returns-in-Err-do_again c = λ ls judged.
    c.flaw_of.ensures c.args.self.now c.args.number c.args.line.now c.args.mark.now
    (event_view c.in-Ok.event, (c.in-Ok.ensures.ok, c.in-Err-do_again.ensures.done judged.kept))

pub returns-then-not-is_told_truly : goal.returns-then-not-is_told_truly
returns-then-not-is_told_truly c = λ ls judged. (
  event_view c.in-Ok.event,
  (c.in-Ok.ensures.ok, λ so. let x = sym c.if-not-is_told_truly.true ∙ (c.is_told_truly.ensures judged.kept).1 so in cc),
)

pub returns : goal.returns
returns c = λ ls judged.
    taken c.args.self.now (record c.args.self.now {
      archive = c.do_again.new.self;
      next = c.args.self.now.next + 1;
      mark = c.in-Ok-from_slice.mark;
    }) ls c.args.number c.args.line.now c.args.mark.now (event_view c.in-Ok.event) judged c.in_ok-check_row.ensures.number
    c.in_ok-check_row.ensures.mark c.in-Ok.ensures.ok
    ((c.is_told_truly.ensures judged.kept).0 c.if-not-is_told_truly.false)
    (c.in_default.ensures.done judged.kept) (c.in_default.ensures.kept judged.kept) refl
    c.in-Ok-from_slice.ensures.items
