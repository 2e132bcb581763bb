-- What an encoded word says (RFC 2047, sections 3 and 4).
use Rattle.std.specs.Prelude.{ℕ, Bool, true, List, Option, None, option_map, option_and_then, ◌==◌, ◌||◌, if◌then◌else◌}
use Rattle.std.specs.Result.{result_ok}
use Rattle.base64.specs.GeneralPurpose.{decode_of}
use Rattle.base64.specs.Engines.{standard_pad_indifferent}
use Rattle.mail_charsets.specs.declared.charset.Charset.{Charset}
use Rattle.mail_charsets.specs.declared.charset.Charset.TheVariants.{Utf8}
use Rattle.mail_charsets.specs.Named.{charset_named}
use Rattle.mail_charsets.specs.Decoding.{text_of, unread_of}
use Rattle.mail_display.specs.declared.quoted.Place.TheVariants.{Plain}
use Rattle.mail_display.specs.Quoted.{q_octets}
use Rattle.mail_display.specs.Words.{Front, word_at}

-- the octets of B text, padded or not (RFC 4648, section 4)
abbrev pub b_octets : List ℕ → Option (List ℕ)
b_octets text = result_ok (decode_of standard_pad_indifferent text)

-- the octets of a text, by the letter of its encoding: B or b, Q or q
abbrev pub octets_of : ℕ → List ℕ → Option (List ℕ)
octets_of encoding text =
    if (encoding == 66) || (encoding == 98) then b_octets text
    else if (encoding == 81) || (encoding == 113) then q_octets Plain text
    else None

-- octets of a charset in UTF-8, and whether each has a character; those of UTF-8 stay as they are
abbrev pub read_octets : Charset → List ℕ → List ℕ × Bool
read_octets Utf8 octets = (octets, true)
read_octets charset octets = (text_of charset octets, unread_of charset octets == 0)

-- a word that can be decoded: its text in UTF-8, whether each of its octets has a character, and the text after it
pub record Readable : Type 0 where
  pub octets : List ℕ
  pub is_whole : Bool
  pub rest : List ℕ

abbrev pub read_front : Front → Option Readable
read_front f = option_and_then (λ charset. option_map (λ octets.
    let read = read_octets charset octets in record { octets = read.0; is_whole = read.1; rest = f.rest })
    (octets_of f.encoding f.text)) (charset_named f.charset)

-- the word at the front of a text, if one stands there whose charset is known and whose text is good
unfoldable pub readable_at : List ℕ → Option Readable
readable_at text = option_and_then read_front (word_at text)
