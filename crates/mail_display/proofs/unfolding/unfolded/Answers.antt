use Rattle.std.proofs.Common.{sym, ap, ◌∙◌, arith, length}
use Rattle.mail_words.specs.Unfolding.{without_line_ends}
use Rattle.mail_display.proofs.UnfoldingLemmas.{empty, kept, passed, done, unfolded-short}
use Rattle.mail_display.proofs.unfolding.unfolded.Goals as goal

pub loop-octet-preserved-in_ok-push : goal.loop-octet-preserved-in_ok-push
loop-octet-preserved-in_ok-push c =
    kept c.loop-octet.line.items c.loop-octet.rest.now c.in-Some.following.now c.push.new.self.items
    (without_line_ends c.args.body.now) c.in-Some.octet.now c.in-Some.ensures.cases.0 c.loop-octet.invariant
    (sym c.stands_at_line_end.ensures ∙ c.if-not-stands_at_line_end.true) c.in_ok-push.ensures.items

pub loop-octet-preserved : goal.loop-octet-preserved
loop-octet-preserved c =
    passed c.loop-octet.line.items c.loop-octet.rest.now c.in-Some.following.now (without_line_ends c.args.body.now)
    c.in-Some.octet.now c.in-Some.ensures.cases.0 c.loop-octet.invariant
    (sym c.stands_at_line_end.ensures ∙ c.if-not-stands_at_line_end.false)

pub returns-clause-value : goal.returns-clause-value
returns-clause-value c =
    done c.loop-octet.line.items c.loop-octet.rest.now (without_line_ends c.args.body.now)
    (empty c.loop-octet.rest.now c.in_default.ensures.cases) c.loop-octet.invariant

pub returns-clause-within : goal.returns-clause-within
returns-clause-within c =
    let value = done c.loop-octet.line.items c.loop-octet.rest.now (without_line_ends c.args.body.now)
    (empty c.loop-octet.rest.now c.in_default.ensures.cases) c.loop-octet.invariant in
    omega (arith, ap length value, unfolded-short c.args.body.now)
