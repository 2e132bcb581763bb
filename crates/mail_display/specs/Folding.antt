-- Texts without case (The Unicode Standard, section 3.13).
use Rattle.std.specs.Prelude.{ℕ, List, chars, encode_utf8_all}
use Rattle.unicode_normalization.specs.Forms.{nfd}
use Rattle.caseless.specs.Caseless.{default_case_fold}

-- a text in UTF-8 with its letters decomposed
abbrev pub decomposed : List ℕ → List ℕ
decomposed text = encode_utf8_all (nfd (chars text))

-- a text in UTF-8 with full case folding applied
abbrev pub without_case : List ℕ → List ℕ
without_case text = encode_utf8_all (default_case_fold (chars text))

-- D145
unfoldable pub folded : List ℕ → List ℕ
folded text = decomposed (without_case (decomposed text))
