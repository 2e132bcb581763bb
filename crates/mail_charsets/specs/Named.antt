-- The charset of a name.
use Rattle.std.specs.Prelude.{ℕ, List, take, Option, not, ◌==◌}
use Rattle.std.specs.List.{find, list_any, prefix_len}
use Rattle.mail_charsets.specs.declared.charset.Charset.{Charset}
use Rattle.mail_charsets.specs.declared.charset.TheConstants.{CHARSETS}
use Rattle.mail_charsets.specs.Names.{is_named, names_of}

-- a name without the language that "*" may put after it (RFC 2231, section 5)
abbrev pub without_language : List ℕ → List ℕ
without_language name = take (prefix_len (λ b. not (b == 42)) name) name

-- the charset that has a name, if there is one
unfoldable pub charset_called : List ℕ → Option Charset
charset_called name = find (λ charset. list_any (is_named name) (names_of charset)) CHARSETS

-- the charset of a name that may have a language after it
abbrev pub charset_named : List ℕ → Option Charset
charset_named name = charset_called (without_language name)
