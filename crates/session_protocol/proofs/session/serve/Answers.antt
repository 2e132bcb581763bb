use Rattle.std.proofs.Common.{arith, refl, [], inl, inr, ap, sym, ◌∙◌, subst}
use Rattle.std.proofs.lemmas.List.{append-nil}
use Rattle.session_protocol.specs.Session.{EndsByInput}
use Rattle.session_protocol.specs.Replies.{answer_of}
use Rattle.session_protocol.specs.declared.items.SessionEnd.{SessionEnd}
use Rattle.session_protocol.specs.declared.items.SessionEnd.TheVariants.{Limit}
use Rattle.session_protocol.proofs.Pieces.{outlasted}
use Rattle.session_protocol.proofs.Served.{do_more, done_unheard, done_unsaid, done_all, answered_now, cut_in_answer}
use Rattle.session_protocol.proofs.Served.{all_told, ended_ok, ended_cut, limit_ends, stop_ends}
use Rattle.session_protocol.proofs.Troubles.{none_met, outlasted_writes, outlasts_on}
use Rattle.session_protocol.proofs.Unread.{left_more, left_stop, left_limit}
use Rattle.session_protocol.proofs.session.serve.Goals as goal

pub loop-init : goal.loop-init
loop-init g c = record {
  doing = record {
    items = [];
    answers = [];
    run = refl;
    few = omega arith;
    heard = λ s. refl;
    said = λ k. sym (append-nil _);
  };
  empty = cc;
  unread = λ s. refl;
  ends = omega arith;
  reads = none_met g.S.Source.troubles c.args.source.now;
  writes = none_met g.K.Sink.troubles c.args.sink.now;
}

pub returns-in_default-clause-done : goal.returns-in_default-clause-done
returns-in_default-clause-done g c = rw c.in_default.ensures.reaction (done_unheard c.loop.invariant.doing (omega (arith, c.loop-test.true)))

pub returns-in_default-clause-unheard : goal.returns-in_default-clause-unheard
returns-in_default-clause-unheard g c = λ s k is. rw c.in_default.ensures.reaction (answered_now c.loop.invariant.doing s k)

pub loop-preserved : goal.loop-preserved
loop-preserved g c =
    let a = rw c.in-Reply.is at c.in-Ok.ensures.reaction in
    let wrote = sym c.is_err.ensures.value ∙ c.if-is_err.false in
    record {
      doing =
          do_more c.loop.invariant.doing a.0 (answer_of c.in-Reply.reply) _ _ _ c.write_reply.result c.loop-test.true a.1 a.2
          c.write_reply.ensures.writes.written wrote;
      empty = outlasted c.write_reply.result c.write_reply.ensures.empty wrote;
      unread = λ s. c.loop.invariant.unread s ∙ left_more c.loop.counter _ a.0 _ c.loop-test.true (a.2 s);
      ends = omega (arith, c.next.ensures.told.ends.rises);
      reads = outlasts_on g.S.Source.troubles _ _ _ c.loop.invariant.reads c.in-Ok.ensures.told.troubles;
      writes =
          outlasts_on g.K.Sink.troubles _ _ _ c.loop.invariant.writes
          (outlasted_writes g.K.Sink.troubles c.write_reply.result _ _ wrote c.write_reply.ensures.writes.troubles);
    }

pub returns-then-is_err-clause-done : goal.returns-then-is_err-clause-done
returns-then-is_err-clause-done g c =
    let a = rw c.in-Reply.is at c.in-Ok.ensures.reaction in
    done_unsaid c.loop.invariant.doing a.0 (answer_of c.in-Reply.reply) _ _ _ c.write_reply.result c.loop-test.true a.1 a.2
    c.write_reply.ensures.writes.written (sym c.is_err.ensures.value ∙ c.if-is_err.true)

pub returns-then-is_err-clause-unsaid : goal.returns-then-is_err-clause-unsaid
returns-then-is_err-clause-unsaid g c = λ s k is.
    let a = rw c.in-Reply.is at c.in-Ok.ensures.reaction in
    inl (cut_in_answer c.loop.invariant.doing a.0 (answer_of c.in-Reply.reply) _ _ _ c.write_reply.result c.loop-test.true a.1 a.2
    c.write_reply.ensures.writes.written (sym c.is_err.ensures.value ∙ c.if-is_err.true) s k)

pub returns-in-End-clause-done : goal.returns-in-End-clause-done
returns-in-End-clause-done g c =
    let a = rw c.in-End.is at c.in-Ok.ensures.reaction in
    done_all (rw (← a.0) at c.loop.invariant.doing) c.write_ending.result c.in-End.ending _ (omega (arith, c.loop-test.true))
    (λ s. stop_ends c.loop.counter _ _ _ c.loop-test.true (a.1 s)) c.write_ending.ensures.read c.write_ending.ensures.writes.written

pub returns-in-End-clause-ok : goal.returns-in-End-clause-ok
returns-in-End-clause-ok g c = λ s k.
    let a = rw c.in-End.is at c.in-Ok.ensures.reaction in
    ended_ok (rw (← a.0) at c.loop.invariant.doing) c.write_ending.result c.in-End.ending _
    (stop_ends c.loop.counter _ _ _ c.loop-test.true (a.1 s)) (c.write_ending.ensures.writes.written k) s k

pub returns-in-End-clause-unsaid : goal.returns-in-End-clause-unsaid
returns-in-End-clause-unsaid g c = λ s k is.
    let a = rw c.in-End.is at c.in-Ok.ensures.reaction in
    inr (ended_cut (rw (← a.0) at c.loop.invariant.doing) c.write_ending.result _ c.in-End.ending _
    (stop_ends c.loop.counter _ _ _ c.loop-test.true (a.1 s)) (c.write_ending.ensures.writes.written k) s k is)

pub returns-in-End-clause-ending : goal.returns-in-End-clause-ending
returns-in-End-clause-ending g c = λ s k ok by.
    let a = rw c.in-End.is at c.in-Ok.ensures.reaction in
    let all = all_told c.loop.invariant.doing c.in-End.ending (stop_ends c.loop.counter _ _ _ c.loop-test.true (a.1 s)) s in
    let P : SessionEnd → Type 0 = EndsByInput in
    let ends = rw c.in-End.is at c.in-Ok.ensures.told.ends in
    let told_end = ends.told (subst P (ap (λ x. x.ending) all) by) in
    omega (arith, told_end, c.loop.invariant.ends)

pub returns-in-End-clause-unread : goal.returns-in-End-clause-unread
returns-in-End-clause-unread g c = λ s k ok.
    let a = rw c.in-End.is at c.in-Ok.ensures.reaction in
    sym (c.loop.invariant.unread s ∙ left_stop c.loop.counter _ _ c.in-End.ending c.loop-test.true (a.1 s))

pub returns-clause-done : goal.returns-clause-done
returns-clause-done g c =
    done_all c.loop.invariant.doing c.write_ending-2.result Limit _ (omega arith) (λ s. limit_ends c.loop.counter _ c.loop-test.false)
    c.write_ending-2.ensures.read c.write_ending-2.ensures.writes.written

pub returns-clause-ok : goal.returns-clause-ok
returns-clause-ok g c = λ s k.
    ended_ok c.loop.invariant.doing c.write_ending-2.result Limit _ (limit_ends c.loop.counter _ c.loop-test.false)
    (c.write_ending-2.ensures.writes.written k) s k

pub returns-clause-unsaid : goal.returns-clause-unsaid
returns-clause-unsaid g c = λ s k is.
    inr (ended_cut c.loop.invariant.doing c.write_ending-2.result _ Limit _ (limit_ends c.loop.counter _ c.loop-test.false)
    (c.write_ending-2.ensures.writes.written k) s k is)

pub returns-clause-ending : goal.returns-clause-ending
returns-clause-ending g c = λ s k ok by.
    let P : SessionEnd → Type 0 = EndsByInput in
    absurd (subst P (ap (λ x. x.ending) (all_told c.loop.invariant.doing Limit (limit_ends c.loop.counter _ c.loop-test.false) s)) by)

pub returns-clause-unread : goal.returns-clause-unread
returns-clause-unread g c = λ s k ok. sym (c.loop.invariant.unread s ∙ left_limit c.loop.counter _ c.loop-test.false)
