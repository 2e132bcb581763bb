-- Examples of the definitions.
use Rattle.std.proofs.Common.{◌≡◌, ℕ, List, ◌++◌, ◌∷◌, [], map, refl}
use Rattle.std.specs.Prelude.{codes}
use Rattle.std.specs.Str.{is_utf8, chars}
use Rattle.base64.proofs.OnLiterals.{base64_on_literals}
use Rattle.mail_words.specs.Unfolding.{without_line_ends}
use Rattle.mail_words.specs.Words.{word_at, first_word}
use Rattle.mail_words.specs.Charsets.{charset_named, text_in}
use Rattle.mail_words.specs.Decoding.{q_octets, text_of}
use Rattle.mail_words.specs.Value.{cut_words, display, value_of_body}

-- each body of a field, and its value
abbrev bodies : List (List ℕ × List ℕ)
bodies =
    (codes "(=?utf-8?q?a_b?=)", codes "(a b)") ∷
    (codes "x=?utf-8?q?a?=", codes "x=?utf-8?q?a?=") ∷
    (codes "=?utf-8?q?=4?=", codes "=?utf-8?q?=4?=") ∷
    (codes " =?utf-8?q?a?= =?utf-8?q?=FF?=", codes "a =?utf-8?q?=FF?=") ∷
    (codes " =?us-ascii?q?a?=\r\n =?us-ascii?q?b?=", codes "ab") ∷
    (codes "=?ISO-8859-1?Q?f=FCr?=", codes "f" ++ 195 ∷ 188 ∷ codes "r") ∷
    -- padded, and unpadded
    (codes "=?utf-8?b?w7w=?=", 195 ∷ 188 ∷ []) ∷
    (codes "=?utf-8?b?w7w?=", codes "=?utf-8?b?w7w?=") ∷
    []

values_are : map (λ r. value_of_body r.0) bodies ≡ map (λ r. r.1) bodies
unfolding value_of_body display cut_words first_word word_at without_line_ends text_of q_octets text_in charset_named
    is_utf8 chars lib.Utf8.encode base64_on_literals
values_are = refl
