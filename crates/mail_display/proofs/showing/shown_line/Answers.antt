use Rattle.std.proofs.Common.{ap, ◌∙◌, ◌+◌, ◌++◌, length}
use Rattle.mail_display.specs.Display.{word_after_gap}
use Rattle.mail_display.proofs.UnfoldingLemmas.{empty}
use Rattle.mail_display.proofs.ShownLemmas.{Showing-done, Showing-word, Showing-octet, is_some, is_none, is_shorter, readable_of}
use Rattle.mail_display.proofs.showing.shown_line.Goals as goal

pub loop-octet-smaller-in-Some-2 : goal.loop-octet-smaller-in-Some-2
loop-octet-smaller-in-Some-2 c =
    is_shorter (length c.loop-octet.rest.now) c.in_ok-word.field-0 c.in-Some-2.word c.in_ok-word.ensures.shorter c.in-Some-2.is

pub loop-octet-preserved-in-Some-2 : goal.loop-octet-preserved-in-Some-2
loop-octet-preserved-in-Some-2 c =
    Showing-word c.args.line.now c.loop-octet.rest.now c.in-Some.following.now c.loop-octet.octets.items
    c.extend_from_slice.new.self.items c.loop-octet.unread _ c.in-Some.octet.now c.loop-octet.is_after_word
    (readable_of c.in-Some-2.word) c.in-Some.ensures.cases.0 c.loop-octet.invariant
    (is_some (word_after_gap c.loop-octet.is_after_word c.loop-octet.rest.now) c.in_ok-word.field-0 c.in-Some-2.word
    c.in_ok-word.ensures.value c.in-Some-2.is)
    (c.in_ok-extend_from_slice-in-Some-2.ensures.items ∙ ap (λ x. c.loop-octet.octets.items ++ x) c.as_slice.ensures.value)
    (ap (λ n. c.loop-octet.unread + n) c.unread_octets-unread.ensures.value)
    (is_shorter (length c.loop-octet.rest.now) c.in_ok-word.field-0 c.in-Some-2.word c.in_ok-word.ensures.shorter c.in-Some-2.is)

pub loop-octet-preserved : goal.loop-octet-preserved
loop-octet-preserved c =
    Showing-octet c.args.line.now c.loop-octet.rest.now c.in-Some.following.now c.loop-octet.octets.items
    c.push.new.self.items c.loop-octet.unread _ c.in-Some.octet.now c.loop-octet.is_after_word c.in-Some.ensures.cases.0
    c.loop-octet.invariant (is_none (word_after_gap c.loop-octet.is_after_word c.loop-octet.rest.now)
    c.in_ok-word.field-0 c.in_ok-word.ensures.value c.in-None.is)
    c.in_ok-push-in-None.ensures.items (ap (λ n. c.loop-octet.unread + n) c.unread_words-unread.ensures.value)

pub returns-clause-octets : goal.returns-clause-octets
returns-clause-octets c =
    (Showing-done c.args.line.now c.loop-octet.rest.now c.loop-octet.octets.items c.loop-octet.unread
    c.loop-octet.is_after_word (empty c.loop-octet.rest.now c.in_default.ensures.cases) c.loop-octet.invariant).0

pub returns-clause-unread : goal.returns-clause-unread
returns-clause-unread c =
    (Showing-done c.args.line.now c.loop-octet.rest.now c.loop-octet.octets.items c.loop-octet.unread
    c.loop-octet.is_after_word (empty c.loop-octet.rest.now c.in_default.ensures.cases) c.loop-octet.invariant).1
