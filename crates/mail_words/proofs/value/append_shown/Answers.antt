use Rattle.std.proofs.Common.{◌++◌, ◌∙◌}
use Rattle.mail_words.specs.Unfolding.{without_line_ends}
use Rattle.mail_words.specs.Value.{display_of_text}
use Rattle.mail_words.proofs.ShownLemmas.{Showing-none, Showing-put, Showing-next, Showing-done}
use Rattle.mail_words.proofs.value.append_shown.Goals as goal

pub loop-standing-init : goal.loop-standing-init
loop-standing-init c = Showing-none c.args.shown.now.items (without_line_ends c.args.text.now)

pub loop-standing-preserved : goal.loop-standing-preserved
loop-standing-preserved c =
    let shown = Showing-put (c.args.shown.now.items
    ++ display_of_text (without_line_ends c.args.text.now)) c.loop-standing.shown.items
    (without_line_ends c.loop-standing.rest.now) c.in-Some.standing.0 c.in-Some.standing.2
    c.append_word.new.shown.items c.in-Some.standing.1 c.loop-standing.after_good c.in_ok-good.good
    c.loop-standing.invariant c.in-Some.ensures.first c.in-Some.ensures.spelled c.in_ok-good.ensures in
    Showing-next (c.args.shown.now.items
    ++ display_of_text (without_line_ends c.args.text.now)) c.append_word.new.shown.items c.in-Some.standing.2
    (without_line_ends c.following-rest.result.now) c.in_ok-good.good shown c.following-rest.ensures

pub returns : goal.returns
returns c =
    c.in_ok-append_unfolded.ensures
    ∙ Showing-done (c.args.shown.now.items
    ++ display_of_text (without_line_ends c.args.text.now)) c.loop-standing.shown.items
    (without_line_ends c.loop-standing.rest.now) c.loop-standing.after_good c.loop-standing.invariant
    c.in_default.ensures.first
