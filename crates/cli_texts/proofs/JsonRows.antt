-- Texts of JSON, worked.
use Rattle.std.proofs.Common.{◌≡◌, ◌∷◌, [], Some, codes, refl, true}
use Rattle.std.specs.Fmt.{digits}
use Rattle.std.specs.Str.{chars}
use Rattle.serde_json.specs.Data.{null, boolean, number, unsigned, object, no_members, member}
use Rattle.serde_json.proofs.OnLiterals.{serde_json_on_literals}
use Rattle.cli_texts.specs.Json.{ascii_of, json_text, object_of, volume_members}

-- U+1D11E, the G clef of RFC 8259, section 7
clef : ascii_of 0x1d11e ≡ codes "\\ud834\\udd1e"
clef = refl

-- ESC, with which a command to a terminal begins
escape : ascii_of 27 ≡ codes "\\u001b"
escape = refl

-- U+202E, which turns the direction of what follows
turned : ascii_of 0x202e ≡ codes "\\u202e"
turned = refl

letter : ascii_of 97 ≡ codes "a"
letter = refl

-- members stand by the byte order of their names
ordered : object_of ((codes "number", number (unsigned 7)) ∷ (codes "destroyed", boolean true) ∷ (codes "due", null) ∷ [])
    ≡ object (member (codes "destroyed") (boolean true) (member (codes "due") null (member (codes "number") (number (unsigned 7)) no_members)))
ordered = refl

-- the later one of two members of one name stays
later : object_of ((codes "line", null) ∷ (codes "line", boolean true) ∷ []) ≡ object (member (codes "line") (boolean true) no_members)
later = refl

row : json_text (object_of ((codes "number", number (unsigned 7)) ∷ (codes "due", null) ∷ [])) ≡ codes "{\"due\":null,\"number\":7}"
unfolding chars digits serde_json_on_literals
row = refl

of_a_volume : object_of (volume_members (Some 3)) ≡ object (member (codes "volume") (number (unsigned 3)) no_members)
of_a_volume = refl
