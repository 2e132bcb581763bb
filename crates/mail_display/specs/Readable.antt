-- A word that can be decoded, as the code has it.
use Rattle.std.specs.Prelude.{◌≡◌, Option, Some, None, MatchOption}
use Rattle.mail_display.specs.declared.decoding.ReadableWord.{ReadableWord}
use Rattle.mail_display.specs.Decoding.{Readable}

-- the word is that one, if there is one
abbrev pub IsReadable : Option Readable → Option ReadableWord → Type 0
IsReadable readable word = MatchOption word (readable ≡ None)
    (λ w. readable ≡ Some (record { octets = w.octets.items; is_whole = w.is_whole; rest = w.rest.now }))
