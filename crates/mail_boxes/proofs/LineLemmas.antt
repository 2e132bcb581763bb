-- The lines of a text.
use Rattle.std.proofs.Common.{◌≡◌, ℕ, ◌==◌, ◌<◌, ◌≤◌, true, false, Bool, ◌&&◌, List, [], ◌∷◌, length, take, drop, refl, sym, ap, ◌∙◌, arith, eqb-true}
use Rattle.mail_head.specs.Lines.{line_len, raw_lines}
use Rattle.mail_head.proofs.LineLemmas.{raw_lines_first}
use Rattle.mail_boxes.specs.Marks.{is_empty_line, is_quoted, unquoted}

pub no_lines : (text : List ℕ) → (length text == 0) ≡ true → raw_lines text ≡ []
unfolding raw_lines
no_lines [] h = refl
no_lines (b ∷ bs) h = absurd (let none : length (b ∷ bs) ≡ 0 = eqb-true (length (b ∷ bs)) 0 h in omega (arith, none))

pub split_lines : (text : List ℕ) (n : ℕ) (line rest : List ℕ) → (length text == 0) ≡ false → n ≡ line_len text → line ≡ take n text
    → rest ≡ drop n text → raw_lines text ≡ line ∷ raw_lines rest
split_lines [] n line rest some len front back = absurd (let x = some in cc)
split_lines (b ∷ bs) n line rest some len front back = rw (front, back, len) (raw_lines_first b bs)

pub quoted_some : (line : List ℕ) → is_quoted line ≡ true → 1 ≤ length line
unfolding is_quoted
quoted_some [] h = absurd (let x = h in cc)
quoted_some (b ∷ bs) h = omega arith

and_false : (b : Bool) → (b && false) ≡ false
and_false true = refl
and_false false = refl

-- an empty line is not quoted
pub unquoted_empty : (line : List ℕ) → is_empty_line line ≡ true → unquoted line ≡ line
unfolding is_quoted
unquoted_empty [] h = refl
unquoted_empty (a ∷ []) h = rw (and_false (a == 62)) refl
unquoted_empty (a ∷ b ∷ []) h = rw (and_false (b == 62), and_false (a == 62)) refl
unquoted_empty (a ∷ b ∷ c ∷ rest) h = absurd (let x = h in cc)
