-- Text as a page shows it. Characters are their numbers.
use Rattle.std.specs.Prelude.{ℕ, Bool, true, false, List, [], ◌∷◌, ◌+◌, ◌/◌, ◌%◌, ◌==◌, ◌&&◌, ◌||◌, nat_le, nat_lt, not, if◌then◌else◌, codes}
use Rattle.std.specs.List.{flat_map, list_any}

abbrev pub is_from : ℕ → ℕ → ℕ → Bool
is_from first last c = nat_le first c && nat_le c last

-- the controls of C0, DEL and those of C1; the soft hyphen, the Arabic letter mark, the Mongolian vowel separator; spaces
-- without a width and marks of direction; separators of lines and paragraphs, embeddings and overrides; invisible
-- operators and isolates; the mark of the order of octets; interlinear marks; and tags
abbrev pub is_hidden : ℕ → Bool
is_hidden c =
    nat_le c 0x1f || is_from 0x7f 0x9f c || (c == 0xad) || (c == 0x61c) || (c == 0x180e) || is_from 0x200b 0x200f c
    || is_from 0x2028 0x202e c || is_from 0x2060 0x206f c || (c == 0xfeff) || is_from 0xfff9 0xfffb c
    || is_from 0xe0000 0xe007f c

-- the angle brackets around the number of a character, which would else look like such a mark
abbrev pub is_bracket : ℕ → Bool
is_bracket c = is_from 0x27e8 0x27e9 c

-- 0-9 and A-F
abbrev pub digit_of : ℕ → ℕ
digit_of d = if nat_lt d 10 then 48 + d else 55 + d

-- the digit of a number at the place that is worth p
abbrev pub digit_at : ℕ → ℕ → ℕ
digit_at p c = digit_of (c / p % 16)

-- the number of a character in six digits, as ⟨U+00202E⟩
abbrev pub mark_of : ℕ → List ℕ
mark_of c =
    0x27e8 ∷ 85 ∷ 43 ∷ digit_at 1048576 c ∷ digit_at 65536 c ∷ digit_at 4096 c ∷ digit_at 256 c ∷ digit_at 16 c
    ∷ digit_at 1 c ∷ 0x27e9 ∷ []

-- & < > " ' as entities, and what shows nothing as its number
abbrev pub shown_of : ℕ → List ℕ
shown_of c =
    if c == 38 then codes "&amp;"
    else if c == 60 then codes "&lt;"
    else if c == 62 then codes "&gt;"
    else if c == 34 then codes "&quot;"
    else if c == 39 then codes "&#39;"
    else if is_hidden c || is_bracket c then mark_of c
    else c ∷ []

abbrev pub shown_all : List ℕ → List ℕ
shown_all text = flat_map shown_of text

-- a slash of a path, after which a line may end
abbrev pub path_shown_of : ℕ → List ℕ
path_shown_of c = if c == 47 then codes "/<wbr>" else shown_of c

abbrev pub path_shown : List ℕ → List ℕ
path_shown path = flat_map path_shown_of path

-- ---- what such a text cannot be

abbrev pub begins_with : List ℕ → List ℕ → Bool
begins_with [] text = true
begins_with (c ∷ cs) [] = false
begins_with (c ∷ cs) (d ∷ ds) = (c == d) && begins_with cs ds

-- what follows the & of an entity
abbrev pub entities : List (List ℕ)
entities = codes "amp;" ∷ codes "lt;" ∷ codes "gt;" ∷ codes "quot;" ∷ codes "#39;" ∷ []

abbrev pub begins_entity : List ℕ → Bool
begins_entity text = list_any (λ e. begins_with e text) entities

-- neither a bracket of a tag, nor a quotation mark that ends an attribute's value, nor a character that is hidden
abbrev pub is_harmless : ℕ → Bool
is_harmless c = not (c == 60) && not (c == 62) && not (c == 34) && not (c == 39) && not (is_hidden c)

-- no tag begins or ends in the text, no value of an attribute ends in it, nothing in it is hidden, and each & of it is that
-- of one of the entities
abbrev pub is_inert : List ℕ → Bool
is_inert [] = true
is_inert (c ∷ cs) = is_harmless c && (not (c == 38) || begins_entity cs) && is_inert cs
