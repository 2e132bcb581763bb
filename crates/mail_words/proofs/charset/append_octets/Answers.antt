use Rattle.mail_words.proofs.CharsetLemmas.{written-nil, written-more, written-all}
use Rattle.mail_words.proofs.charset.append_octets.Goals as goal

pub loop-octet-init : goal.loop-octet-init
loop-octet-init c = written-nil c.args.charset c.args.shown.now.items

pub loop-octet-preserved : goal.loop-octet-preserved
loop-octet-preserved c =
    written-more c.args.charset c.args.shown.now.items c.loop-octet.shown.items c.append_octet.new.shown.items
    c.args.octets.now c.loop-octet.octet-index c.loop-octet.invariant c.loop-octet-test.true
    c.in_ok-append_octet.ensures

pub returns : goal.returns
returns c = written-all c.args.charset c.args.shown.now.items c.loop-octet.shown.items c.args.octets.now
    c.loop-octet.octet-index c.loop-octet.invariant c.loop-octet-test.false
