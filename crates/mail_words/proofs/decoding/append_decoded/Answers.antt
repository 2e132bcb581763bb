use Rattle.std.proofs.Common.{◌∙◌}
use Rattle.mail_words.specs.Unfolding.{without_line_ends}
use Rattle.mail_words.proofs.CharsetLemmas.{decoded-read}
use Rattle.mail_words.proofs.decoding.append_decoded.Goals as goal

pub returns-then-good : goal.returns-then-good
returns-then-good c =
    decoded-read c.args.word.now (without_line_ends c.charset.result.now) c.in-Some.charset c.in_ok-charset.field-0
    c.args.shown.now.items c.charset_written.new.shown.items c.append_text.new.shown.items c.as_slice.result.now
    c.len-start.result c.in_ok-good.good c.is_read.result c.charset.ensures c.in_ok-charset.ensures.value c.in-Some.is
    c.in_ok-charset.ensures.same (c.len-start.ensures
    ∙ c.args.shown.now.ok.0) c.in_ok-good.ensures c.if-good.true c.as_slice.ensures.value c.is_read.ensures
