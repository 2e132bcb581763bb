-- Questions on a message with known answers: each line computes.
use Rattle.std.proofs.Common.{◌≡◌, ℕ, Bool, true, false, List, [], ◌∷◌, ◌++◌, map, refl}
use Rattle.std.specs.Prelude.{codes}
use Rattle.std.specs.Str.{is_utf8, chars}
use Rattle.sieve_syntax.specs.Tree.{TestTree, test, no_tests, one_test, listed_tests, last_test, next_test}
use Rattle.sieve_syntax.specs.declared.tree.Argument.{Argument}
use Rattle.sieve_syntax.specs.declared.tree.Argument.TheVariants.{Strings, Number, Tag}
use Rattle.sieve_syntax.specs.declared.tree.StringList.TheVariants.{One, Listed}
use Rattle.mail_head.specs.Lines.{raw_lines, header_lines, logical_from, logical_lines}
use Rattle.mail_head.specs.Fields.{field_of, fields_of}
use Rattle.mail_words.specs.Unfolding.{without_line_ends}
use Rattle.mail_words.specs.Words.{word_at, first_word}
use Rattle.mail_words.specs.Charsets.{charset_named, text_in}
use Rattle.mail_words.specs.Decoding.{q_octets, text_of}
use Rattle.mail_words.specs.Value.{cut_words, display, value_of_body}
use Rattle.mail_case.specs.Message.{case_of}
use Rattle.sieve_meaning.specs.Words.{test_word}
use Rattle.sieve_meaning.specs.Matching.{equals, suffixes, contains}
use Rattle.sieve_meaning.specs.Reading.{string_lists, comparator_from, number_in, test_in}
use Rattle.sieve_meaning.specs.Truth.{truth}
use Rattle.record_question.specs.Questions.{no_class}

-- 68 octets; the name of the sender is an encoded word, and "invoice" stands in the body alone
abbrev message : List ℕ
message = codes "From: =?utf-8?q?M=C3=BCller?=\r\nSubject: Your roof\r\n\r\ninvoice: paid\r\n"

-- `header :contains NAME KEY`
abbrev contained : List ℕ → List ℕ → TestTree
contained name key = test (codes "header") (Tag (codes "contains") ∷ Strings (One name) ∷ Strings (One key) ∷ []) no_tests

-- `exists NAME`
abbrev there : List ℕ → TestTree
there name = test (codes "exists") (Strings (One name) ∷ []) no_tests

-- `size :over N`, or `size :under N`
abbrev sized : List ℕ → ℕ → TestTree
sized tag n = test (codes "size") (Tag tag ∷ Number n ∷ []) no_tests

-- `not TEST`
abbrev opposite : TestTree → TestTree
opposite t = test (codes "not") [] (one_test t)

-- `allof (FIRST, SECOND)`
abbrev both : TestTree → TestTree → TestTree
both first second = test (codes "allof") [] (listed_tests first (next_test second last_test))

abbrev questions : List (TestTree × Bool)
questions =
    -- decoded, and without the case of ASCII letters
    (contained (codes "from") (codes "m" ++ 195 ∷ 188 ∷ codes "LLER"), true) ∷
    (contained (codes "from") (codes "C3=BC"), false) ∷
    -- the body is not looked at
    (contained (codes "subject") (codes "invoice"), false) ∷
    (contained (codes "invoice") (codes "paid"), false) ∷
    (there (codes "invoice"), false) ∷
    (there (codes "SUBJECT"), true) ∷
    -- its octets count
    (sized (codes "over") 67, true) ∷
    (sized (codes "over") 68, false) ∷
    (sized (codes "under") 68, false) ∷
    (sized (codes "under") 69, true) ∷
    (opposite (there (codes "date")), true) ∷
    (both (there (codes "subject")) (opposite (there (codes "from"))), false) ∷
    (both (there (codes "subject")) (there (codes "from")), true) ∷
    []

pub answers_are : map (λ q. truth (case_of message no_class) (test_in q.0)) questions ≡ map (λ q. q.1) questions
unfolding fields_of field_of logical_lines logical_from header_lines raw_lines
    value_of_body display cut_words first_word word_at without_line_ends text_of q_octets text_in charset_named
    is_utf8 chars lib.Utf8.encode
    test_word string_lists comparator_from number_in equals suffixes contains
answers_are = refl
