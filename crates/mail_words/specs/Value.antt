-- The value of a field: its body unfolded and trimmed, and its encoded words replaced (RFC 2047, section 6.2).
use Rattle.std.specs.Prelude.{◌≡◌, ℕ, zero, suc, Bool, true, false, List, [], ◌∷◌, ◌++◌, length, Option, Some, None, ◌&&◌, if◌then◌else◌}
use Rattle.std.specs.List.{list_all}
use Rattle.mail_words.specs.Unfolding.{is_blank, without_line_ends, without_outer_blanks}
use Rattle.mail_words.specs.Words.{Word, spelling, first_word}
use Rattle.mail_words.specs.Decoding.{text_of}

-- a text cut at its standing words: each with the gap before it, and the text after the last one
abbrev pub Cut : Type 0
Cut = List (List ℕ × Word) × List ℕ

abbrev pub cut_at : List ℕ → Option (List ℕ × Word × List ℕ) → (List ℕ → Cut) → Cut
cut_at bs None more = ([], bs)
cut_at bs (Some found) more = let rest = more found.2 in ((found.0, found.1) ∷ rest.0, rest.1)

-- the cut of a text, computed from the front; the number is at least the length of the text
unfoldable pub cut_words : ℕ → List ℕ → Cut
cut_words zero bs = ([], bs)
cut_words (suc n) bs = cut_at bs (first_word true bs) (cut_words n)

-- a word as it is shown, with the gap before it: a good one as its text, and after a good one without a gap of blanks
-- alone; another one as its spelling
abbrev pub display_of_word : Bool → List ℕ → Word → Option (List ℕ) → (Bool → List ℕ) → List ℕ
display_of_word after_good gap w (Some text) more = (if after_good && list_all is_blank gap then [] else gap) ++
    (text ++ more true)
display_of_word after_good gap w None more = gap ++ (spelling w ++ more false)

-- a word, good or not, and the gap before it are appended to the old text as they are shown
abbrev pub IsPutWord : Bool → Bool → List ℕ → Word → List ℕ → List ℕ → Type 0
IsPutWord true after_good gap w old new = (text : List ℕ) × (text_of w ≡ Some text) ×
    (new ≡ old ++ ((if after_good && list_all is_blank gap then [] else gap) ++ text))
IsPutWord false after_good gap w old new = (text_of w ≡ None) × (new ≡ old ++ (gap ++ spelling w))

unfoldable pub display : Bool → List (List ℕ × Word) → List ℕ → List ℕ
display after_good [] last = last
display after_good (part ∷
    parts) last = display_of_word after_good part.0 part.1 (text_of part.1) (λ good. display good parts last)

abbrev pub display_of_cut : Cut → List ℕ
display_of_cut cut = display false cut.0 cut.1

abbrev pub display_of_text : List ℕ → List ℕ
display_of_text text = display_of_cut (cut_words (length text) text)

-- the value of a field with this body (RFC 2047, section 6.2)
unfoldable pub value_of_body : List ℕ → List ℕ
value_of_body raw = display_of_text (without_outer_blanks (without_line_ends raw))
