use Rattle.std.proofs.Common.{string_bytes}
use Rattle.std.specs.Char.{encode_utf8}
use Rattle.cli_page.specs.Escaping.{digit_at}
use Rattle.cli_page.proofs.ShownLemmas.{ten_pushed}
use Rattle.cli_page.proofs.escaping.push_mark.Goals as goal

pub returns : goal.returns
returns c =
    let code = c.args.code in
    ten_pushed (string_bytes c.args.text.now) (string_bytes c.push.new.self) (string_bytes c.push-2.new.self)
    (string_bytes c.push-3.new.self) (string_bytes c.push_digit.new.text) (string_bytes c.push_digit-2.new.text)
    (string_bytes c.push_digit-3.new.text) (string_bytes c.push_digit-4.new.text) (string_bytes c.push_digit-5.new.text)
    (string_bytes c.push_digit-6.new.text) (string_bytes c.push-4.new.self)
    (encode_utf8 0x27e8) (encode_utf8 85) (encode_utf8 43) (encode_utf8 (digit_at 1048576 code)) (encode_utf8 (digit_at 65536 code))
    (encode_utf8 (digit_at 4096 code)) (encode_utf8 (digit_at 256 code)) (encode_utf8 (digit_at 16 code))
    (encode_utf8 (digit_at 1 code)) (encode_utf8 0x27e9)
    c.in_ok-push.ensures.bytes c.in_ok-push-2.ensures.bytes c.in_ok-push-3.ensures.bytes
    c.in_ok-push_digit.ensures c.in_ok-push_digit-2.ensures c.in_ok-push_digit-3.ensures
    c.in_ok-push_digit-4.ensures c.in_ok-push_digit-5.ensures c.in_ok-push_digit-6.ensures c.in_ok-push-4.ensures.bytes
