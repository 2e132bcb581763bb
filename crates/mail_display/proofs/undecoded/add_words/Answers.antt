use Rattle.mail_display.proofs.UndecodedLemmas.{with-word, with-none, with-all}
use Rattle.mail_display.proofs.UnfoldingLemmas.{empty}
use Rattle.mail_display.proofs.undecoded.add_words.Goals as goal

pub loop-following-preserved-in_ok-add_word : goal.loop-following-preserved-in_ok-add_word
loop-following-preserved-in_ok-add_word c =
    with-word c.loop-following.words.items c.add_word.new.words.items _ c.args.field.now c.loop-following.rest.now
    c.in-Some.following.now c.in-Some-front_charset.charset.now c.in-Some.field-0-0.now c.in-Some.ensures.cases.0
    c.in-Some-front_charset.ensures c.in_ok-add_word.ensures c.loop-following.invariant

pub loop-following-preserved : goal.loop-following-preserved
loop-following-preserved c =
    with-none c.loop-following.words.items _ c.args.field.now c.loop-following.rest.now c.in-Some.following.now
    c.in-Some.field-0-0.now c.in-Some.ensures.cases.0 c.in_default-front_charset.ensures c.loop-following.invariant

pub returns : goal.returns
returns c =
    with-all c.loop-following.words.items _ c.args.field.now c.loop-following.rest.now
    (empty c.loop-following.rest.now c.in_default.ensures.cases) c.loop-following.invariant
