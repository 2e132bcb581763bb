-- Texts as searches compare them. White space is what has Unicode's property White_Space.
use Rattle.std.specs.Prelude.{ℕ, Bool, false, List, [], ◌∷◌, chars, encode_utf8_all, if◌then◌else◌}
use Rattle.std.specs.Char.{is_whitespace}
use Rattle.std.specs.List.{list_all}
use Rattle.mail_display.specs.Folding.{folded}

abbrev pub begins_white : List ℕ → Bool
begins_white [] = false
begins_white (c ∷ cs) = is_whitespace c

-- the characters with one space for each run of white space: the last of a run is a space, and the others are left out
abbrev pub one_space : List ℕ → List ℕ
one_space [] = []
one_space (c ∷ cs) =
    if is_whitespace c then (if begins_white cs then one_space cs else 32 ∷ one_space cs)
    else c ∷ one_space cs

-- a text in UTF-8 has nothing but white space
unfoldable pub is_blank : List ℕ → Bool
is_blank text = list_all is_whitespace (chars text)

-- a text in UTF-8 as it is compared
unfoldable pub comparable : List ℕ → List ℕ
comparable text = folded (encode_utf8_all (one_space (chars text)))
