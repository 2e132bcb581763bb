-- The names of charsets, in small letters: those of IANA's registry, and some that mail programs use beside them.
use Rattle.std.specs.Prelude.{ℕ, Bool, List, [], ◌∷◌, map, codes}
use Rattle.std.specs.Char.{to_ascii_lowercase}
use Rattle.std.specs.Str.{bytes_eq}
use Rattle.mail_charsets.specs.declared.charset.Charset.{Charset}
use Rattle.mail_charsets.specs.declared.charset.Charset.TheVariants.{UsAscii, Utf8, Iso8859_1, Iso8859_2, Iso8859_3, Iso8859_4, Iso8859_5, Iso8859_6, Iso8859_7, Iso8859_8, Iso8859_9, Iso8859_10, Iso8859_11, Iso8859_13, Iso8859_14, Iso8859_15, Iso8859_16, Windows1250, Windows1251, Windows1252, Windows1253, Windows1254, Windows1255, Windows1256, Windows1257, Windows1258, Koi8R, Koi8U}

-- two names are equal in any case of their letters (RFC 2047, section 2)
abbrev pub is_named : List ℕ → List ℕ → Bool
is_named name other = bytes_eq (map to_ascii_lowercase name) (map to_ascii_lowercase other)

-- the names of a charset
abbrev pub names_of : Charset → List (List ℕ)
names_of UsAscii = codes "us-ascii" ∷ codes "ascii" ∷ codes "us" ∷ codes "ansi_x3.4-1968" ∷ codes "ansi_x3.4-1986" ∷
    codes "iso_646.irv:1991" ∷ codes "iso646-us" ∷ codes "iso-ir-6" ∷ codes "ibm367" ∷ codes "cp367" ∷ codes "csascii"
    ∷ []
names_of Utf8 = codes "utf-8" ∷ codes "utf8" ∷ codes "csutf8" ∷ []
names_of Iso8859_1 = codes "iso-8859-1" ∷ codes "iso8859-1" ∷ codes "iso_8859-1" ∷ codes "iso_8859-1:1987" ∷ codes
    "iso-ir-100" ∷ codes "l1" ∷ codes "latin1" ∷ codes "latin-1" ∷ codes "ibm819" ∷ codes "cp819" ∷ codes
    "csisolatin1" ∷ []
names_of Iso8859_2 = codes "iso-8859-2" ∷ codes "iso8859-2" ∷ codes "iso_8859-2" ∷ codes "iso_8859-2:1987" ∷ codes
    "iso-ir-101" ∷ codes "l2" ∷ codes "latin2" ∷ codes "csisolatin2" ∷ []
names_of Iso8859_3 = codes "iso-8859-3" ∷ codes "iso8859-3" ∷ codes "iso_8859-3" ∷ codes "iso_8859-3:1988" ∷ codes
    "iso-ir-109" ∷ codes "l3" ∷ codes "latin3" ∷ codes "csisolatin3" ∷ []
names_of Iso8859_4 = codes "iso-8859-4" ∷ codes "iso8859-4" ∷ codes "iso_8859-4" ∷ codes "iso_8859-4:1988" ∷ codes
    "iso-ir-110" ∷ codes "l4" ∷ codes "latin4" ∷ codes "csisolatin4" ∷ []
names_of Iso8859_5 = codes "iso-8859-5" ∷ codes "iso8859-5" ∷ codes "iso_8859-5" ∷ codes "iso_8859-5:1988" ∷ codes
    "iso-ir-144" ∷ codes "cyrillic" ∷ codes "csisolatincyrillic" ∷ []
names_of Iso8859_6 = codes "iso-8859-6" ∷ codes "iso8859-6" ∷ codes "iso_8859-6" ∷ codes "iso_8859-6:1987" ∷ codes
    "iso-ir-127" ∷ codes "ecma-114" ∷ codes "asmo-708" ∷ codes "arabic" ∷ codes "csisolatinarabic" ∷ codes
    "iso-8859-6-i" ∷ codes "iso-8859-6-e" ∷ []
names_of Iso8859_7 = codes "iso-8859-7" ∷ codes "iso8859-7" ∷ codes "iso_8859-7" ∷ codes "iso_8859-7:1987" ∷ codes
    "iso-ir-126" ∷ codes "elot_928" ∷ codes "ecma-118" ∷ codes "greek" ∷ codes "greek8" ∷ codes "csisolatingreek" ∷ []
names_of Iso8859_8 = codes "iso-8859-8" ∷ codes "iso8859-8" ∷ codes "iso_8859-8" ∷ codes "iso_8859-8:1988" ∷ codes
    "iso-ir-138" ∷ codes "hebrew" ∷ codes "csisolatinhebrew" ∷ codes "iso-8859-8-i" ∷ codes "iso-8859-8-e" ∷ []
names_of Iso8859_9 = codes "iso-8859-9" ∷ codes "iso8859-9" ∷ codes "iso_8859-9" ∷ codes "iso_8859-9:1989" ∷ codes
    "iso-ir-148" ∷ codes "l5" ∷ codes "latin5" ∷ codes "csisolatin5" ∷ []
names_of Iso8859_10 = codes "iso-8859-10" ∷ codes "iso8859-10" ∷ codes "iso_8859-10" ∷ codes "iso-ir-157" ∷ codes "l6"
    ∷ codes "iso_8859-10:1992" ∷ codes "latin6" ∷ codes "csisolatin6" ∷ []
names_of Iso8859_11 = codes "iso-8859-11" ∷ codes "iso8859-11" ∷ codes "iso_8859-11" ∷ codes "csiso885911" ∷ []
names_of Iso8859_13 = codes "iso-8859-13" ∷ codes "iso8859-13" ∷ codes "iso_8859-13" ∷ codes "csiso885913" ∷ []
names_of Iso8859_14 = codes "iso-8859-14" ∷ codes "iso8859-14" ∷ codes "iso_8859-14" ∷ codes "iso-ir-199" ∷ codes
    "iso_8859-14:1998" ∷ codes "latin8" ∷ codes "iso-celtic" ∷ codes "l8" ∷ codes "csiso885914" ∷ []
names_of Iso8859_15 = codes "iso-8859-15" ∷ codes "iso8859-15" ∷ codes "iso_8859-15" ∷ codes "latin-9" ∷ codes
    "latin9" ∷ codes "csiso885915" ∷ []
names_of Iso8859_16 = codes "iso-8859-16" ∷ codes "iso8859-16" ∷ codes "iso_8859-16" ∷ codes "iso-ir-226" ∷ codes
    "iso_8859-16:2001" ∷ codes "latin10" ∷ codes "l10" ∷ codes "csiso885916" ∷ []
names_of Windows1250 = codes "windows-1250" ∷ codes "cp1250" ∷ codes "x-cp1250" ∷ codes "cswindows1250" ∷ []
names_of Windows1251 = codes "windows-1251" ∷ codes "cp1251" ∷ codes "x-cp1251" ∷ codes "cswindows1251" ∷ []
names_of Windows1252 = codes "windows-1252" ∷ codes "cp1252" ∷ codes "x-cp1252" ∷ codes "cswindows1252" ∷ []
names_of Windows1253 = codes "windows-1253" ∷ codes "cp1253" ∷ codes "x-cp1253" ∷ codes "cswindows1253" ∷ []
names_of Windows1254 = codes "windows-1254" ∷ codes "cp1254" ∷ codes "x-cp1254" ∷ codes "cswindows1254" ∷ []
names_of Windows1255 = codes "windows-1255" ∷ codes "cp1255" ∷ codes "x-cp1255" ∷ codes "cswindows1255" ∷ []
names_of Windows1256 = codes "windows-1256" ∷ codes "cp1256" ∷ codes "x-cp1256" ∷ codes "cswindows1256" ∷ []
names_of Windows1257 = codes "windows-1257" ∷ codes "cp1257" ∷ codes "x-cp1257" ∷ codes "cswindows1257" ∷ []
names_of Windows1258 = codes "windows-1258" ∷ codes "cp1258" ∷ codes "x-cp1258" ∷ codes "cswindows1258" ∷ []
names_of Koi8R = codes "koi8-r" ∷ codes "koi8r" ∷ codes "cskoi8r" ∷ []
names_of Koi8U = codes "koi8-u" ∷ codes "koi8u" ∷ codes "cskoi8u" ∷ []
