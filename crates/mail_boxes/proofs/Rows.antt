-- The definitions on worked rows.
use Rattle.std.proofs.Common.{◌≡◌, ℕ, true, false, List, [], ◌∷◌, map, codes, Some, None, refl}
use Rattle.mail_head.specs.Lines.{raw_lines, logical_from, logical_lines, header_lines}
use Rattle.mail_head.specs.Fields.{field_of, fields_of}
use Rattle.mail_boxes.specs.Boxes.{groups, messages_of, without_last_empty}
use Rattle.mail_boxes.specs.Marks.{has_date, is_quoted, is_separator, unquoted}
use Rattle.mail_boxes.specs.NoMail.{have_another, is_mbox}
use Rattle.mail_boxes.specs.Undated.{undated}

separators_are : map is_separator (
    codes "From ann@example.org Wed Jan  7 10:00:00 2009\n" ∷ codes "From - Wed Jan 7 10:00 2009\n"
    ∷ codes "From 1@xxx Thu Dec 31 23:59:59 +0000 2020\r\n" ∷ codes "From the beginning\n"
    ∷ codes "From a Wed Jan  7\n" ∷ codes ">From a Wed Jan  7 10:00:00 2009\n" ∷ codes "from a Wed Jan  7 10:00:00 2009\n" ∷ [])
    ≡ true ∷ true ∷ true ∷ false ∷ false ∷ false ∷ false ∷ []
unfolding has_date
separators_are = refl

unquoted_are : map unquoted (codes ">From a\n" ∷ codes ">>From a\n" ∷ codes "> From a\n" ∷ codes "From a\n" ∷ codes ">\n" ∷ [])
    ≡ codes "From a\n" ∷ codes ">From a\n" ∷ codes "> From a\n" ∷ codes "From a\n" ∷ codes ">\n" ∷ []
unfolding is_quoted
unquoted_are = refl

-- the second separator stands in a paragraph, and the empty line before the third one ends the first message
messages_are : messages_of (codes "From a Wed Jan  7 10:00 2009\n" ∷ codes "A: 1\n" ∷ codes "From b Wed Jan  7 10:00 2009\n" ∷ codes "\r\n"
    ∷ codes "\n" ∷ codes "From c Wed Jan  7 10:00 2009\n" ∷ codes ">From d\n" ∷ [])
    ≡ Some (Some (codes "A: 1\nFrom b Wed Jan  7 10:00 2009\n\r\n") ∷ Some (codes "From d\n") ∷ [])
unfolding groups without_last_empty has_date is_quoted
messages_are = refl

none_are : messages_of (codes "A: 1\n" ∷ []) ≡ None
unfolding has_date
none_are = refl

mboxes_are : map is_mbox (
    codes "From a Wed Jan  7 10:00 2009\nA: 1\n\nFrom a Wed Jan  7 10:00 2009\nA: 2\n"
    ∷ codes "From a Wed Jan  7 10:00 2009\nA: 1\n\nText\n"
    ∷ codes "From a Wed Jan  7 10:00 2009\nA: 1\nFrom a Wed Jan  7 10:00 2009\nA: 2\n"
    ∷ codes "A: 1\n\nFrom a Wed Jan  7 10:00 2009\nA: 2\n" ∷ [])
    ≡ true ∷ false ∷ false ∷ false ∷ []
unfolding have_another raw_lines has_date
mboxes_are = refl

-- of three lines that begin with "From " and have no date, the first stands in a paragraph, and the last two after an empty line
undated_are : undated 1 true (codes "From a Wed Jan  7 10:00 2009\n" ∷ codes "A: 1\n" ∷ codes "From b\n" ∷ codes "\n" ∷ codes "From c\n"
    ∷ codes "\r\n" ∷ codes "From d Wed Jan  7 10:00 2009\n" ∷ codes "\n" ∷ codes "From e\n" ∷ codes "\n" ∷ codes ">From f\n" ∷ [])
    ≡ 5 ∷ 9 ∷ []
unfolding undated has_date
undated_are = refl
