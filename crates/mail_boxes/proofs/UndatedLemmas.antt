-- One more line, after those that were read.
use Rattle.std.proofs.Common.{◌≡◌, ℕ, ◌+◌, ◌-◌, ◌^◌, ◌<◌, suc, min, Bool, true, false, cond, List, [], ◌∷◌, ◌++◌, ◌&&◌, length, Option, Some, None}
use Rattle.std.proofs.Common.{refl, ap, sym, ◌∙◌, append_assoc, append-nil, length-append, arith}
use Rattle.std.specs.Option.{option_or}
use Rattle.mail_boxes.specs.Marks.{is_empty_line}
use Rattle.mail_boxes.specs.Undated.{HasRead, end_empty, first_of, found_at, is_undated, noted, undated}
use Rattle.mail_boxes.specs.declared.undated.UndatedLines.{UndatedLines}

next_at : (number : ℕ) (lines : List (List ℕ)) (l : List ℕ) → number + 1 + length lines ≡ number + length (l ∷ lines)
next_at number lines l = omega arith

pub undated_more : (number : ℕ) (after_empty : Bool) (lines : List (List ℕ)) (line : List ℕ)
    → undated number after_empty (lines ++ line ∷ [])
    ≡ undated number after_empty lines ++ found_at (number + length lines) (end_empty after_empty lines) line
unfolding undated end_empty
undated_more number after_empty [] line = append-nil (found_at number after_empty line) ∙ ap (λ n. found_at n after_empty line) (omega arith)
undated_more number after_empty (l ∷ lines) line =
    ap (λ more. found_at number after_empty l ++ more) (undated_more (number + 1) (is_empty_line l) lines line)
    ∙ sym (append_assoc (found_at number after_empty l) (undated (number + 1) (is_empty_line l) lines) _)
    ∙ ap (λ n. found_at number after_empty l ++ undated (number + 1) (is_empty_line l) lines
    ++ found_at n (end_empty (is_empty_line l) lines) line) (next_at number lines l)

pub end_empty_more : (after_empty : Bool) (lines : List (List ℕ)) (line : List ℕ)
    → end_empty after_empty (lines ++ line ∷ []) ≡ is_empty_line line
unfolding end_empty
end_empty_more after_empty [] line = refl
end_empty_more after_empty (l ∷ lines) line = end_empty_more (is_empty_line l) lines line

first_more : (found : List ℕ) (number : ℕ) → first_of (found ++ number ∷ []) ≡ option_or (first_of found) (Some number)
first_more [] number = refl
first_more (n ∷ found) number = refl

-- what was found with the next line, by what is noted
found_more : (lines : List (List ℕ)) (line : List ℕ) (u : UndatedLines) (is : Bool) → HasRead lines u
    → (u.after_empty && is_undated line) ≡ is
    → undated 1 true (lines ++ line ∷ []) ≡ undated 1 true lines ++ cond is (u.next ∷ []) []
found_more lines line u is h e =
    undated_more 1 true lines line
    ∙ ap (λ b. undated 1 true lines ++ found_at (1 + length lines) b line) (sym h.after_empty)
    ∙ ap (λ n. undated 1 true lines ++ cond (u.after_empty && is_undated line) (n ∷ []) [])
    (let s : 1 + length lines ≡ length lines + 1 = omega arith in s ∙ sym h.next)
    ∙ ap (λ b. undated 1 true lines ++ cond b (u.next ∷ []) []) e

-- the next line is no one of them
pub read_other : (lines : List (List ℕ)) (line : List ℕ) (u after : UndatedLines) → HasRead lines u
    → (u.after_empty && is_undated line) ≡ false → after.first ≡ u.first → after.count ≡ u.count
    → after.next ≡ u.next + 1 → after.after_empty ≡ is_empty_line line → HasRead (lines ++ line ∷ []) after
read_other lines line u after h is first count next empty =
    let e = found_more lines line u false h is ∙ append-nil (undated 1 true lines) in
    record {
      first = first ∙ h.first ∙ ap first_of (sym e);
      count = count ∙ h.count ∙ ap (λ f. min (length f) (2 ^ 64 - 1)) (sym e);
      next = next ∙ ap (λ n. n + 1) h.next ∙ ap (λ n. n + 1) (sym (length-append lines (line ∷ [])));
      after_empty = empty ∙ sym (end_empty_more true lines line);
    }

-- the next line is one of them
pub read_one : (lines : List (List ℕ)) (line : List ℕ) (u after : UndatedLines) → HasRead lines u
    → (u.after_empty && is_undated line) ≡ true → after.first ≡ option_or u.first (Some u.next)
    → after.count ≡ min (u.count + 1) (2 ^ 64 - 1)
    → after.next ≡ u.next + 1 → after.after_empty ≡ is_empty_line line → HasRead (lines ++ line ∷ []) after
read_one lines line u after h is first count next empty =
    let e = found_more lines line u true h is in
    let found = undated 1 true lines in
    record {
      first = first ∙ ap (λ o. option_or o (Some u.next)) h.first ∙ sym (first_more found u.next) ∙ ap first_of (sym e);
      count = count ∙ ap (λ n. min (n + 1) (2 ^ 64 - 1)) h.count
          ∙ (let s : min (min (length found) (2 ^ 64 - 1) + 1) (2 ^ 64 - 1) ≡ min (length found + 1) (2 ^ 64 - 1) = omega arith in s)
          ∙ ap (λ n. min n (2 ^ 64 - 1)) (sym (length-append found (u.next ∷ [])))
          ∙ ap (λ f. min (length f) (2 ^ 64 - 1)) (sym e);
      next = next ∙ ap (λ n. n + 1) h.next ∙ ap (λ n. n + 1) (sym (length-append lines (line ∷ [])));
      after_empty = empty ∙ sym (end_empty_more true lines line);
    }
