-- The characters of the octets of charsets that have one octet a character, by the tables of src/tables.rt.
use Rattle.std.specs.Prelude.{ℕ, ◌+◌, ◌-◌, List, nat_lt, slice_index, if◌then◌else◌}
use Rattle.mail_charsets.specs.declared.charset.Charset.{Charset}
use Rattle.mail_charsets.specs.declared.charset.Charset.TheVariants.{UsAscii, Utf8, Iso8859_1, Iso8859_2, Iso8859_3, Iso8859_4, Iso8859_5, Iso8859_6, Iso8859_7, Iso8859_8, Iso8859_9, Iso8859_10, Iso8859_11, Iso8859_13, Iso8859_14, Iso8859_15, Iso8859_16, Windows1250, Windows1251, Windows1252, Windows1253, Windows1254, Windows1255, Windows1256, Windows1257, Windows1258, Koi8R, Koi8U}
use Rattle.mail_charsets.specs.declared.tables.TheConstants.{ISO_8859_2, ISO_8859_3, ISO_8859_4, ISO_8859_5, ISO_8859_6, ISO_8859_7, ISO_8859_8, ISO_8859_9, ISO_8859_10, ISO_8859_11, ISO_8859_13, ISO_8859_14, ISO_8859_15, ISO_8859_16, WINDOWS_1250, WINDOWS_1251, WINDOWS_1252, WINDOWS_1253, WINDOWS_1254, WINDOWS_1255, WINDOWS_1256, WINDOWS_1257, WINDOWS_1258, KOI8_R, KOI8_U}

-- the code point of the octet 128 + place: in ISO 8859-1 its own number, in US-ASCII and UTF-8, where such an octet is
-- no character, U+FFFD, and otherwise that of the table
abbrev pub upper_of : Charset → ℕ → ℕ
upper_of UsAscii place = 0xFFFD
upper_of Utf8 place = 0xFFFD
upper_of Iso8859_1 place = 128 + place
upper_of Iso8859_2 place = slice_index ISO_8859_2 place
upper_of Iso8859_3 place = slice_index ISO_8859_3 place
upper_of Iso8859_4 place = slice_index ISO_8859_4 place
upper_of Iso8859_5 place = slice_index ISO_8859_5 place
upper_of Iso8859_6 place = slice_index ISO_8859_6 place
upper_of Iso8859_7 place = slice_index ISO_8859_7 place
upper_of Iso8859_8 place = slice_index ISO_8859_8 place
upper_of Iso8859_9 place = slice_index ISO_8859_9 place
upper_of Iso8859_10 place = slice_index ISO_8859_10 place
upper_of Iso8859_11 place = slice_index ISO_8859_11 place
upper_of Iso8859_13 place = slice_index ISO_8859_13 place
upper_of Iso8859_14 place = slice_index ISO_8859_14 place
upper_of Iso8859_15 place = slice_index ISO_8859_15 place
upper_of Iso8859_16 place = slice_index ISO_8859_16 place
upper_of Windows1250 place = slice_index WINDOWS_1250 place
upper_of Windows1251 place = slice_index WINDOWS_1251 place
upper_of Windows1252 place = slice_index WINDOWS_1252 place
upper_of Windows1253 place = slice_index WINDOWS_1253 place
upper_of Windows1254 place = slice_index WINDOWS_1254 place
upper_of Windows1255 place = slice_index WINDOWS_1255 place
upper_of Windows1256 place = slice_index WINDOWS_1256 place
upper_of Windows1257 place = slice_index WINDOWS_1257 place
upper_of Windows1258 place = slice_index WINDOWS_1258 place
upper_of Koi8R place = slice_index KOI8_R place
upper_of Koi8U place = slice_index KOI8_U place

-- the code point of an octet; below 128 it is the octet itself, as in US-ASCII
abbrev pub code_point : Charset → ℕ → ℕ
code_point charset octet = if nat_lt octet 128 then octet else upper_of charset (octet - 128)
