-- The fields of a message, one logical line after another.
use Rattle.std.proofs.Common.{◌≡◌, ℕ, ◌+◌, ◌-◌, ◌<◌, ◌≤◌, Bool, true, cond, List, [], ◌∷◌, ◌++◌, length, take, drop}
use Rattle.std.proofs.Common.{refl, sym, ap, ◌∙◌, append_assoc, arith, Option, Some, None}
use Rattle.std.proofs.lemmas.List.{append-nil, length-drop, drop-drop}
use Rattle.std.specs.Prelude.{nat_lt, ◌&&◌, slice_range}
use Rattle.std.specs.List.{prefix_len}
use Rattle.mail_head.specs.Lines.{is_blank, without_end, header_of, logical_lines}
use Rattle.mail_head.specs.Fields.{is_name_octet, begins_with, field_of, fields_of}

-- the next logical line is a field
pub fields_of-some : (before : List (List ℕ × List ℕ)) (bs line rest : List ℕ) (f : List ℕ
    × List ℕ) (all : List (List ℕ × List ℕ)) → logical_lines (header_of bs) ≡ line ∷ logical_lines (header_of rest)
    → Some f ≡ field_of line → before ++ fields_of bs ≡ all → (before ++ f ∷ []) ++ fields_of rest ≡ all
unfolding fields_of
fields_of-some before bs line rest f all e h i = rw append_assoc (rw (e, ← h) at i)

-- the next logical line is no field
pub fields_of-none : (before : List (List ℕ × List ℕ)) (bs line rest : List ℕ) (all : List (List ℕ × List ℕ))
    → logical_lines (header_of bs) ≡ line ∷ logical_lines (header_of rest) → None ≡ field_of line → before
    ++ fields_of bs ≡ all → before ++ fields_of rest ≡ all
unfolding fields_of
fields_of-none before bs line rest all e h i = rw (e, ← h) at i

-- no logical line is left
pub fields_of-done : (before : List (List ℕ × List ℕ)) (bs : List ℕ) (all : List (List ℕ × List ℕ)) → header_of bs ≡ []
    → before ++ fields_of bs ≡ all → before ≡ all
unfolding fields_of logical_lines
fields_of-done before bs all e i = sym (append-nil before) ∙ (rw e at i)

-- a text of m octets after the first d octets of a line
part_at : (line body text : List ℕ) (d : ℕ) → body ≡ drop d line → d ≤ length line → text ≡ take (length text) body
    → slice_range line (length line - length body) (length line - length body + length text) ≡ text
part_at line body text d e h t =
    let start : length line - length body ≡ d = rw e (omega (arith, length-drop d line, h)) in
    let long : d + length text - d ≡ length text = omega arith in
    rw (start, long, ← e) (sym t)

chosen : {X : Type 0} (t u : Bool) (x : Option X) → t ≡ true → u ≡ true → cond (t && u) x None ≡ x
chosen t u x e f = rw (e, f) refl

-- the place of a field in its line
pub field_of-place : (line after rest body text : List ℕ) (n k : ℕ) → n ≡ prefix_len is_name_octet line
    → n ≤ length line → after ≡ drop n line → k ≡ prefix_len is_blank after → k ≤ length after → rest ≡ drop k after
    → 0 < n → begins_with 58 rest ≡ true → 0 < length rest → body ≡ drop 1 rest → text ≡ without_end body
    → text ≡ take (length text) body
    → Some (
      slice_range line 0 n,
      slice_range line (length line - length body) (length line - length body + length text),
    ) ≡ field_of line
unfolding field_of
field_of-place line after rest body text n k en wn ea ek wk er some colon sr eb et ft =
    let following : body ≡ drop (n + k + 1) line = eb ∙ ap (drop 1) (er ∙ ap (drop k) ea ∙ drop-drop k n line) ∙ drop-drop 1 (n + k) line in
    let lengths : length after ≡ length line - n = rw ea (length-drop n line) in
    let lengths_2 : length rest ≡ length after - k = rw er (length-drop k after) in
    let room : n + k + 1 ≤ length line = omega arith in
    let named : nat_lt 0 n ≡ true = grind arith in
    let front : slice_range line 0 n ≡ take n line = ap (λ m. take m line) (omega arith) in
    let result : cond (nat_lt 0 n && begins_with 58 rest) (Some (take n line, without_end (drop 1 rest))) None
    ≡ Some (take n line, text) = chosen _ _ _ named colon
    ∙ ap (λ x. Some (take n line, x)) (sym (et ∙ ap without_end eb)) in
    rw (front, part_at line body text (n + k + 1) following room ft) (sym (rw (← en, ← ea, ← ek, ← er) result))
