use Rattle.mail_words.specs.Unfolding.{without_line_ends}
use Rattle.mail_words.specs.Words.{is_part_octet}
use Rattle.mail_words.proofs.FoldedLemmas.{InPart-none, InPart-more, InPart-front, part-shorter, run_front, run_after}
use Rattle.mail_words.proofs.words.split_part.Goals as goal

pub loop-following-init : goal.loop-following-init
loop-following-init c = InPart-none c.args.part c.args.text.now

pub loop-following-preserved : goal.loop-following-preserved
loop-following-preserved c =
    InPart-more c.args.part c.args.text.now c.loop-following.rest.now c.in-Some.following.now c.loop-following.invariant
    c.in-Some.ensures

pub loop-following-smaller : goal.loop-following-smaller
loop-following-smaller c = part-shorter c.args.part c.loop-following.rest.now c.in-Some.following.now c.in-Some.ensures

pub returns-clause-front : goal.returns-clause-front
returns-clause-front c =
    let parts = InPart-front c.args.part c.args.text.now c.loop-following.rest.now c.split_at.result.0.now
    c.loop-following.invariant c.split_at.ensures.front in
    run_front (is_part_octet c.args.part) (without_line_ends c.args.text.now)
    (without_line_ends c.split_at.result.0.now) (without_line_ends c.loop-following.rest.now) parts.0 parts.1
    c.in_default.ensures

pub returns-clause-following : goal.returns-clause-following
returns-clause-following c =
    let parts = InPart-front c.args.part c.args.text.now c.loop-following.rest.now c.split_at.result.0.now
    c.loop-following.invariant c.split_at.ensures.front in
    run_after (is_part_octet c.args.part) (without_line_ends c.args.text.now)
    (without_line_ends c.split_at.result.0.now) (without_line_ends c.loop-following.rest.now) parts.0 parts.1
    c.in_default.ensures
