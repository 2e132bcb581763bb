use Rattle.mail_words.specs.Unfolding.{without_line_ends}
use Rattle.mail_words.proofs.QuotedLemmas.{Decoded-none, Decoded-plain, Decoded-low}
use Rattle.mail_words.proofs.quoted.append_q.Goals as goal

pub loop-octet-init : goal.loop-octet-init
loop-octet-init c = Decoded-none c.args.charset (without_line_ends c.args.text.now) c.args.shown.now.items

pub loop-octet-preserved-in_ok-append_octet-in-Plain-2 :
    goal.loop-octet-preserved-in_ok-append_octet-in-Plain-2
loop-octet-preserved-in_ok-append_octet-in-Plain-2 c =
    Decoded-plain c.args.charset (without_line_ends c.args.text.now) (without_line_ends c.loop-octet.rest.now)
    (without_line_ends c.in-Some.following.now) c.args.shown.now.items c.loop-octet.shown.items
    c.append_octet.new.shown.items c.loop-octet.place c.in-Some.octet c.plain_octet.result c.loop-octet.invariant
    c.in-Plain-2.is c.in-Some.ensures.2 c.if-octet-eq61.false c.plain_octet.ensures
    c.in_ok-append_octet-in-Plain-2.ensures

pub loop-octet-preserved : goal.loop-octet-preserved
loop-octet-preserved c =
    Decoded-low c.args.charset (without_line_ends c.args.text.now) (without_line_ends c.loop-octet.rest.now)
    (without_line_ends c.in-Some.following.now) c.args.shown.now.items c.loop-octet.shown.items
    c.append_octet-in-Some-hex_digit-2.new.shown.items c.loop-octet.place c.in-Some.octet c.in-Digit.high
    c.in-Some-hex_digit-2.low c.loop-octet.invariant c.in-Digit.is c.in-Some.ensures.2
    c.in-Some-hex_digit-2.ensures.value c.in_ok-append_octet-in-Some-hex_digit-2.ensures
