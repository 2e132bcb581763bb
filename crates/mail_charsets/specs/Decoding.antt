-- The text of octets in a charset, and what of it can't be read.
use Rattle.std.specs.Prelude.{ℕ, List, map, count_by, encode_utf8_all, ◌==◌, if◌then◌else◌}
use Rattle.std.specs.Str.{is_utf8}
use Rattle.std.specs.Str.Lossy.{utf8_lossy}
use Rattle.mail_charsets.specs.declared.charset.Charset.{Charset}
use Rattle.mail_charsets.specs.declared.charset.Charset.TheVariants.{Utf8}
use Rattle.mail_charsets.specs.Tables.{code_point}

-- the text in UTF-8: of UTF-8 with U+FFFD for each ill-formed part, and otherwise the code points of the octets
unfoldable pub text_of : Charset → List ℕ → List ℕ
text_of Utf8 octets = utf8_lossy octets
text_of charset octets = encode_utf8_all (map (code_point charset) octets)

-- how much can't be read: of UTF-8 one if it is not well-formed, and otherwise the octets without a character
unfoldable pub unread_of : Charset → List ℕ → ℕ
unread_of Utf8 octets = if is_utf8 octets then 0 else 1
unread_of charset octets = count_by (λ octet. code_point charset octet == 0xFFFD) octets
