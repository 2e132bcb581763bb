use Rattle.std.proofs.Common.{sym, ap, ◌∙◌, arith, length, ◌+◌, ◌<◌, ◌≤◌, ◌^◌, ◌≡◌, string_bytes}
use Rattle.std.proofs.lemmas.Result.{IfOk-weaker}
use Rattle.mail_words.specs.Unfolding.{without_outer_blanks}
use Rattle.mail_charsets.specs.declared.charset.Charset.TheVariants.{Utf8}
use Rattle.mail_charsets.specs.Decoding.{text_of, unread_of}
use Rattle.mail_display.specs.Display.{display_text, display_unread}
use Rattle.mail_display.proofs.PlainLemmas.{plain_line}
use Rattle.mail_display.proofs.ShownLemmas.{utf8_unread}
use Rattle.mail_display.proofs.showing.display.Goals as goal

pub overflow_add-result : goal.overflow_add-result
overflow_add-result c =
    let short : length c.args.value.now < 2 ^ 63 = omega arith in
    let line : length c.as_slice.result.now ≡ length c.in_ok-line.line.items = ap length c.as_slice.ensures.value in
    omega (
      arith,
      short,
      line,
      c.in_ok-line.ensures.within,
      c.trimmed.ensures.within,
      c.in_ok-shown.ensures.few,
      c.in_ok-decoded.ensures.unread,
      utf8_unread c.as_slice-2.result.now,
    )

pub returns-clause-few : goal.returns-clause-few
returns-clause-few c =
    let line : length c.as_slice.result.now ≡ length c.in_ok-line.line.items = ap length c.as_slice.ensures.value in
    omega (
      arith,
      line,
      c.in_ok-line.ensures.within,
      c.trimmed.ensures.within,
      c.in_ok-shown.ensures.few,
      c.in_ok-decoded.ensures.unread,
      utf8_unread c.as_slice-2.result.now,
    )

pub returns-then-is_plain-clause-text : goal.returns-then-is_plain-clause-text
unfolding display_text
returns-then-is_plain-clause-text c =
    let body = c.args.value.now in
    let line = plain_line body (sym c.is_plain.ensures ∙ c.if-is_plain.true) in
    IfOk-weaker c.as_it_stands.result (λ d. string_bytes d.text ≡ text_of Utf8 (without_outer_blanks body))
    (λ d. string_bytes d.text ≡ display_text body) (λ d h. h ∙ sym (ap (λ s. text_of Utf8 s.0) line)) c.as_it_stands.ensures.text

pub returns-then-is_plain-clause-unread : goal.returns-then-is_plain-clause-unread
unfolding display_unread
returns-then-is_plain-clause-unread c =
    let body = c.args.value.now in
    let line = plain_line body (sym c.is_plain.ensures ∙ c.if-is_plain.true) in
    IfOk-weaker c.as_it_stands.result (λ d. d.unread ≡ unread_of Utf8 (without_outer_blanks body))
    (λ d. d.unread ≡ display_unread body) (λ d h. omega (arith, h, ap (λ s. s.1 + unread_of Utf8 s.0) line)) c.as_it_stands.ensures.unread

pub returns-then-is_plain-clause-few : goal.returns-then-is_plain-clause-few
returns-then-is_plain-clause-few c =
    let body = c.args.value.now in
    IfOk-weaker c.as_it_stands.result (λ d. d.unread ≤ 1) (λ d. d.unread ≤ length body + 1) (λ d h. omega (arith, h))
    c.as_it_stands.ensures.few
