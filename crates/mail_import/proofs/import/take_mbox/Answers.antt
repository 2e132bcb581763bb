use Rattle.std.proofs.Common.{[], ◌++◌, List, refl, arith}
use Rattle.mail_boxes.specs.Boxes.{message_view}
use Rattle.mail_import.specs.Findings.{AreOfMbox, Finding, IsBoxed}
use Rattle.mail_import.specs.Sources.{Mail}
use Rattle.mail_import.proofs.SourceLaws.{boxed_none, found_at, found_from, found_more, found_whole, unseen_of_mbox}
use Rattle.mail_import.proofs.FindingLaws.{breaks_at_once, does_none, does_then, done_breaks, then_breaks}
use Rattle.mail_import.proofs.Taken.{on_err}
use Rattle.mail_import.proofs.import.take_mbox.Goals as goal

pub returns-in_err-mbox-clause-ended : goal.returns-in_err-mbox-clause-ended
returns-in_err-mbox-clause-ended g c =
    let goes = g.M.OldMailroom.goes in
    let has = g.M.OldMailroom.has in
    let none = g.met.M.OldMailroom.goes_none in
    let and_then = g.met.M.OldMailroom.goes_then in
    let terms = c.args.terms.now in
    on_err _ _ (breaks_at_once goes has none and_then terms (AreOfMbox c.args.path.now) c.args.room.now c.args.progress.now (unseen_of_mbox
    c.args.path.now))

pub loop-number-init : goal.loop-number-init
loop-number-init g c =
    let goes = g.M.OldMailroom.goes in
    let has = g.M.OldMailroom.has in
    let none = g.met.M.OldMailroom.goes_none in
    let and_then = g.met.M.OldMailroom.goes_then in
    let terms = c.args.terms.now in (
      [],
      does_none goes has none and_then terms c.args.room.now c.args.progress.now,
      λ (m : Mail) h. record {
        found = [];
        rest = m.messages c.args.path.now;
        are = boxed_none c.args.path.now (m.first c.args.path.now);
        counted = omega (arith, c.first_number-first.ensures m h);
        messages = refl;
        to_come = c.in_ok-mbox.ensures.opened m h;
      },
    )

pub returns-in_err-message-clause-ended : goal.returns-in_err-message-clause-ended
returns-in_err-message-clause-ended g c =
    let goes = g.M.OldMailroom.goes in
    let has = g.M.OldMailroom.has in
    let none = g.met.M.OldMailroom.goes_none in
    let and_then = g.met.M.OldMailroom.goes_then in
    let terms = c.args.terms.now in
    let inv = c.loop-number.invariant in
    on_err _ _ (done_breaks goes has none and_then terms (AreOfMbox c.args.path.now) c.args.room.now c.loop-number.room c.args.progress.now
    c.loop-number.progress
    inv.0 inv.1
    (λ (m : Mail) h. found_from g.M.OldMailroom.left c.args.path.now c.loop-number.number inv.0 c.loop-number.mbox m (inv.2 m h)))

pub returns-in_default-clause-taken : goal.returns-in_default-clause-taken
returns-in_default-clause-taken g c =
    let goes = g.M.OldMailroom.goes in
    let has = g.M.OldMailroom.has in
    let none = g.met.M.OldMailroom.goes_none in
    let and_then = g.met.M.OldMailroom.goes_then in
    let terms = c.args.terms.now in
    let inv = c.loop-number.invariant in
    let told = c.tell_undated.ensures in record {
      findings = inv.0 ++ told.0;
      does = does_then goes has none and_then terms c.args.room.now c.loop-number.room c.tell_undated.new.room c.args.progress.now
          c.loop-number.progress
          c.loop-number.progress inv.0 told.0 inv.1 (told.1 terms c.loop-number.progress);
      all = λ (m : Mail) h.
          found_whole g.M.OldMailroom.left c.args.path.now c.loop-number.number inv.0 c.loop-number.mbox m (inv.2 m h)
          c.next_message.new.mbox c.in_ok-message.field-0 c.in_ok-message.ensures.next told.0 c.in_default.is
          (told.2 m (inv.1.calls.kept m h));
    }

pub returns-in_err-take_boxed-clause-ended : goal.returns-in_err-take_boxed-clause-ended
returns-in_err-take_boxed-clause-ended g c =
    let goes = g.M.OldMailroom.goes in
    let has = g.M.OldMailroom.has in
    let none = g.met.M.OldMailroom.goes_none in
    let and_then = g.met.M.OldMailroom.goes_then in
    let terms = c.args.terms.now in
    let inv = c.loop-number.invariant in
    let octets = message_view c.in-Some.message in
    on_err _ _ (then_breaks goes has none and_then terms (IsBoxed c.args.path.now c.loop-number.number octets) (AreOfMbox c.args.path.now)
    c.args.room.now
    c.loop-number.room c.take_boxed.new.room c.args.progress.now c.loop-number.progress c.take_boxed.new.progress inv.0 inv.1
    c.in_err-take_boxed.ensures.ended
    (λ (m : Mail) h (ys : List Finding) one.
    found_at g.M.OldMailroom.left c.args.path.now c.loop-number.number inv.0 c.loop-number.mbox m (inv.2 m h) c.next_message.new.mbox
    c.in_ok-message.field-0 c.in_ok-message.ensures.next c.in-Some.message ys c.in-Some.is one))

pub loop-number-preserved : goal.loop-number-preserved
loop-number-preserved g c =
    let goes = g.M.OldMailroom.goes in
    let has = g.M.OldMailroom.has in
    let none = g.met.M.OldMailroom.goes_none in
    let and_then = g.met.M.OldMailroom.goes_then in
    let terms = c.args.terms.now in
    let inv = c.loop-number.invariant in
    let one = c.in_ok-take_boxed.ensures.taken in (
      inv.0 ++ one.findings,
      does_then goes has none and_then terms c.args.room.now c.loop-number.room c.take_boxed.new.room c.args.progress.now c.loop-number.progress
          c.take_boxed.new.progress inv.0 one.findings inv.1 one.does,
      λ (m : Mail) h.
          found_more g.M.OldMailroom.left c.args.path.now c.loop-number.number inv.0 c.loop-number.mbox m (inv.2 m h)
          c.next_message.new.mbox c.in_ok-message.field-0 c.in_ok-message.ensures.next c.in-Some.message one.findings c.in-Some.is
          (one.all m (inv.1.calls.kept m h)),
    )

pub returns-clause-ended : goal.returns-clause-ended
returns-clause-ended g c =
    let goes = g.M.OldMailroom.goes in
    let has = g.M.OldMailroom.has in
    let none = g.met.M.OldMailroom.goes_none in
    let and_then = g.met.M.OldMailroom.goes_then in
    let terms = c.args.terms.now in
    let inv = c.loop-number.invariant in
    done_breaks goes has none and_then terms (AreOfMbox c.args.path.now) c.args.room.now c.loop-number.room c.args.progress.now
    c.loop-number.progress inv.0 inv.1
    (λ (m : Mail) h. found_from g.M.OldMailroom.left c.args.path.now c.loop-number.number inv.0 c.loop-number.mbox m (inv.2 m h))
