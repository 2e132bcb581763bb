use Rattle.std.proofs.Common.{◌++◌, ap, ◌∙◌, drop}
use Rattle.mail_words.specs.Unfolding.{without_line_ends, without_cr}
use Rattle.mail_words.proofs.UnfoldingLemmas.{unfolded-more, unfolded_last}
use Rattle.mail_words.proofs.unfolding.append_unfolded.Goals as goal

pub loop-place-preserved : goal.loop-place-preserved
loop-place-preserved c =
    rw c.in_ok-extend_from_slice.ensures.items (unfolded-more c.loop-place.line.items c.loop-place.rest.now
    c.line_text.result.now c.split_at.result.1.now c.split_at-in-Some.result.1.now c.in-Some.place
    (c.args.line.now.items ++ without_line_ends c.args.text.now) c.in-Some.ensures (c.line_text.ensures
    ∙ ap without_cr c.split_at.ensures.front) (c.split_at-in-Some.ensures.back
    ∙ ap (drop 1) c.split_at.ensures.back) c.loop-place.invariant)

pub returns : goal.returns
returns c = rw (c.in_ok-extend_from_slice-2.ensures.items, ← unfolded_last c.loop-place.rest.now c.in_default.ensures) c.loop-place.invariant
