use Rattle.std.proofs.Common.{ℕ, List, sym, ap, ◌∙◌, map-id}
use Rattle.std.specs.Str.{encode_utf8_all}
use Rattle.std.proofs.lemmas.Iterator.{YieldsList-from_chars}
use Rattle.std.proofs.lemmas.Iterator.Consumers.{YieldsList-end}
use Rattle.mail_display.specs.Comparing.{one_space}
use Rattle.mail_display.proofs.ComparingLemmas.{white_more, kept, spaced, left_out}
use Rattle.mail_display.proofs.comparing.one_space.Goals as goal

pub loop-c-preserved-in_ok-push : goal.loop-c-preserved-in_ok-push
loop-c-preserved-in_ok-push c = record {
  same = kept _ _ c.loop-c.yielded _ _ c.in-Some.c c.loop-c.invariant.white c.is_whitespace-is_white.ensures
      c.if-not-is_white.true c.loop-c.invariant.same c.in_ok-push.ensures.bytes;
  white = c.is_whitespace-is_white.ensures ∙ white_more c.loop-c.yielded c.in-Some.c;
}

pub loop-c-preserved-in_ok-push-2 : goal.loop-c-preserved-in_ok-push-2
loop-c-preserved-in_ok-push-2 c = record {
  same = spaced _ _ c.loop-c.yielded _ _ c.in-Some.c c.loop-c.invariant.white c.is_whitespace-is_white.ensures
      c.if-not-is_white.false c.if-not-is_after_white.true c.loop-c.invariant.same c.in_ok-push-2.ensures.bytes;
  white = c.is_whitespace-is_white.ensures ∙ white_more c.loop-c.yielded c.in-Some.c;
}

pub loop-c-preserved : goal.loop-c-preserved
loop-c-preserved c = record {
  same = left_out _ c.loop-c.yielded _ _ c.in-Some.c c.loop-c.invariant.white c.is_whitespace-is_white.ensures
      c.if-not-is_white.false c.if-not-is_after_white.false c.loop-c.invariant.same;
  white = c.is_whitespace-is_white.ensures ∙ white_more c.loop-c.yielded c.in-Some.c;
}

pub returns : goal.returns
returns c =
    let end = YieldsList-end (YieldsList-from_chars c.args.text.now c.utf8.text cc) c.loop-c.yielded _ c.loop-c.yielded_by
    _ _ c.in-None.is c.next.ensures.steps in
    c.loop-c.invariant.same
    ∙ ap (λ (cs : List ℕ). encode_utf8_all (one_space cs)) (sym (map-id c.loop-c.yielded) ∙ end.0)
