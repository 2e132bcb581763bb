use Rattle.mail_display.proofs.QuotedLemmas.{Decoded-plain, Decoded-low}
use Rattle.mail_display.proofs.quoted.decode_q.Goals as goal

pub loop-octet-preserved-in_ok-push-in-Plain-2 : goal.loop-octet-preserved-in_ok-push-in-Plain-2
loop-octet-preserved-in_ok-push-in-Plain-2 c =
    Decoded-plain c.args.text.now c.loop-octet.rest.now c.in-Some.following.now c.loop-octet.octets.items
    c.push.new.self.items c.loop-octet.place c.in-Some.octet.now c.plain_octet.result c.loop-octet.invariant
    c.in-Plain-2.is c.in-Some.ensures.cases.0 c.if-octet-eq61.false c.plain_octet.ensures
    c.in_ok-push-in-Plain-2.ensures.items

pub loop-octet-preserved : goal.loop-octet-preserved
loop-octet-preserved c =
    Decoded-low c.args.text.now c.loop-octet.rest.now c.in-Some.following.now c.loop-octet.octets.items
    c.push-in-Some-hex_digit-2.new.self.items c.loop-octet.place c.in-Some.octet.now c.in-Digit.high
    c.in-Some-hex_digit-2.low c.loop-octet.invariant c.in-Digit.is c.in-Some.ensures.cases.0
    c.in-Some-hex_digit-2.ensures.value c.in_ok-push-in-Some-hex_digit-2.ensures.items
