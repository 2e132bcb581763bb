-- What a line does to the messages that are to come.
use Rattle.std.proofs.Common.{◌≡◌, ℕ, Bool, true, false, cond, List, [], ◌∷◌, ◌++◌, ◌&&◌, map, length, Option, Some, None}
use Rattle.std.proofs.Common.{refl, ap, sym, ◌∙◌, arith, append_assoc, append-nil, length-append}
use Rattle.std.specs.Prelude.{nat_le}
use Rattle.mail_head.specs.declared.buffer.TheConstants.{MAX_OCTETS}
use Rattle.mail_boxes.specs.Marks.{is_empty_line, is_separator, unquoted}
use Rattle.mail_boxes.specs.Boxes.{Groups, Open, added, all_of, completed, groups, limited, message_of, nothing_read, text_of}
use Rattle.mail_boxes.specs.Boxes.{to_come, with_groups, with_line, without_last_empty}
use Rattle.mail_boxes.proofs.LineLemmas.{unquoted_empty}

-- what is too long stays so
longer : (t b : List ℕ) → nat_le (length t) MAX_OCTETS ≡ false → nat_le (length (t ++ b)) MAX_OCTETS ≡ false
longer t b h = grind (arith, length-append)

twice_at : (fits : Bool) (t a b : List ℕ) → nat_le (length (t ++ a)) MAX_OCTETS ≡ fits
    → added (cond fits (Some (t ++ a)) None) b ≡ limited (t ++ (a ++ b))
twice_at true t a b h = ap limited (append_assoc t a b)
twice_at false t a b h = rw (← append_assoc t a b, longer (t ++ a) b h) refl

added_twice : (x : Option (List ℕ)) (a b : List ℕ) → added (added x a) b ≡ added x (a ++ b)
added_twice None a b = refl
added_twice (Some t) a b = twice_at (nat_le (length (t ++ a)) MAX_OCTETS) t a b refl

-- a message of which nothing was read
pub fresh : (g : Groups) → map message_of (all_of g) ≡ with_groups nothing_read g
unfolding without_last_empty
fresh ([], more) = refl
fresh ((line ∷ lines), more) = refl

-- a separator after an empty line ends the open message
pub cut : (o : Open) (line : List ℕ) (lines : List (List ℕ)) → (is_empty_line o.blank && is_separator line) ≡ true
    → to_come o (line ∷ lines) ≡ o.text ∷ to_come nothing_read lines
unfolding groups
cut o line lines ends = rw ends (ap (λ t. o.text ∷ t) (fresh (groups false lines)))

-- a line more of the open message
completed_by : (e : Bool) (t : Option (List ℕ)) (b line : List ℕ) (first : List (List ℕ)) → is_empty_line line ≡ e
    → completed t b (line ∷ first) ≡ completed (cond e (added t b) (added (added t b) (unquoted line))) (cond e line []) first
unfolding without_last_empty
completed_by true t b line [] is = rw (is, append-nil b) refl
completed_by true t b line (m ∷ ms) is = rw (unquoted_empty line is) (sym (added_twice t b (line ++ text_of (m ∷ ms))))
completed_by false t b line [] is = rw (is, append-nil (unquoted line)) (sym (added_twice t b (unquoted line)))
completed_by false t b line (m ∷ ms) is =
    sym (added_twice t b (unquoted line ++ text_of (m ∷ ms))) ∙ sym (added_twice (added t b) (unquoted line) (text_of (m ∷ ms)))

blank_is : (e : Bool) (line : List ℕ) → is_empty_line line ≡ e → is_empty_line (cond e line []) ≡ e
blank_is true line is = is
blank_is false line is = refl

pub grows : (o : Open) (line : List ℕ) (lines : List (List ℕ)) → (is_empty_line o.blank && is_separator line) ≡ false
    → to_come o (line ∷ lines) ≡ to_come (with_line o line) lines
unfolding groups
grows o line lines goes_on =
    rw (goes_on, blank_is (is_empty_line line) line refl)
    (ap (λ t. t ∷ map message_of (groups (is_empty_line line) lines).1)
    (completed_by (is_empty_line line) o.text o.blank line (groups (is_empty_line line) lines).0 refl))
