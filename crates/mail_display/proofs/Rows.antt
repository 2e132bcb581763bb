-- Examples of the definitions.
use Rattle.std.proofs.Common.{◌≡◌, ◌∷◌, [], refl}
use Rattle.std.specs.Prelude.{codes}
use Rattle.mail_display.specs.Comparing.{one_space}
use Rattle.mail_display.specs.Words.{word_at}
use Rattle.mail_display.specs.Undecoded.{charset_at, charsets_in, with_word}

-- a word in quotation marks, and one with another letter for its encoding
two_words : charsets_in (codes "\"=?utf-8?q?a?=\" =?x?z??=") ≡ codes "utf-8" ∷ codes "x" ∷ []
unfolding charsets_in charset_at word_at
two_words = refl

-- no charset, and no end
no_word : charsets_in (codes "=??q?a?= =?x?q?a") ≡ []
unfolding charsets_in charset_at word_at
no_word = refl

-- one like it is there, in other letters
in_any_case : with_word ((codes "Subject", codes "koi8-r") ∷ []) (codes "subject", codes "KOI8-R") ≡ (codes "Subject", codes "koi8-r") ∷ []
in_any_case = refl

another_field : with_word ((codes "Subject", codes "koi8-r") ∷ []) (codes "From", codes "koi8-r")
    ≡ (codes "Subject", codes "koi8-r") ∷ (codes "From", codes "koi8-r") ∷ []
another_field = refl

-- a tab, two spaces, what a fold leaves, a no-break space, and a line end
one_tab : one_space (codes "a\tb") ≡ codes "a b"
one_tab = refl

two_spaces : one_space (codes "a  b") ≡ codes "a b"
two_spaces = refl

a_fold : one_space (codes "a \r\n\t b") ≡ codes "a b"
a_fold = refl

no_break : one_space (97 ∷ 160 ∷ 32 ∷ 98 ∷ []) ≡ codes "a b"
no_break = refl

at_the_ends : one_space (codes "  a\t") ≡ codes " a "
at_the_ends = refl

no_white_space : one_space (codes "ab") ≡ codes "ab"
no_white_space = refl
