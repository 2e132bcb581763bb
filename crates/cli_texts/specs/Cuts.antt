-- Texts of a header, cut to a number of columns. Characters are their numbers.
use Rattle.std.specs.Prelude.{ℕ, max, ◌-◌, Bool, true, ◌&&◌, nat_le, List, [], ◌∷◌, ◌++◌, unwrap_or, chars, false, if◌then◌else◌}
use Rattle.std.specs.Str.{encode_utf8_all}
use Rattle.unicode_width.specs.Width.{char_width}

-- how many columns a character is counted as: one at least
unfoldable pub columns_of : ℕ → ℕ
columns_of c = max (unwrap_or (char_width false c) 1) 1

-- a text has at most so many columns
abbrev pub fits_in : (most : ℕ) → List ℕ → Bool
fits_in most [] = true
fits_in most (c ∷ cs) = nat_le (columns_of c) most && fits_in (most - columns_of c) cs

-- the longest front of a text that has at most so many columns
abbrev pub front_in : (most : ℕ) → List ℕ → List ℕ
front_in most [] = []
front_in most (c ∷ cs) = if nat_le (columns_of c) most then c ∷ front_in (most - columns_of c) cs else []

-- U+2026, which stands for what is left out
abbrev pub ellipsis : ℕ
ellipsis = 0x2026

-- A TEXT OF AT MOST 80 COLUMNS: the whole text, or its front with an ellipsis for the rest
abbrev pub cut_text : List ℕ → List ℕ
cut_text text = if fits_in 80 text then text else front_in 79 text ++ ellipsis ∷ []

-- the same in octets of UTF-8
abbrev pub cut_octets : List ℕ → List ℕ
cut_octets octets = encode_utf8_all (cut_text (chars octets))
