-- A body without line ends and encoded words is shown as it stands between its outer blanks.
use Rattle.std.proofs.Common.{◌≡◌, ℕ, zero, suc, ◌≤◌, Bool, true, false, cond, ◌&&◌, ◌||◌, not, List, [], ◌∷◌, length, take, drop, refl, sym, ap, ap₂}
use Rattle.std.proofs.Common.{◌∙◌, ◌+◌, ◌-◌, arith, Option, Some, None, le_of_suc-le-suc}
use Rattle.std.specs.Prelude.{◌==◌, option_and_then}
use Rattle.std.specs.List.{list_any, prefix_len, suffix_len}
use Rattle.mail_words.specs.Unfolding.{is_blank, begins_with, begins_line_end, without_line_ends, without_first_blanks, without_outer_blanks}
use Rattle.mail_display.specs.Decoding.{read_front, readable_at}
use Rattle.mail_display.specs.Words.{opened_word, names_charset, word_at, begins_word}
use Rattle.mail_display.specs.Display.{shown_piece, shown, shown_line, line_of, is_plain}
use Rattle.mail_display.proofs.UnfoldingLemmas.{step}
use Rattle.mail_display.proofs.ShownLemmas.{shown_nil, shown_cons}

abbrev Lacks : ℕ → List ℕ → Type 0
Lacks c text = list_any (λ b. b == c) text ≡ false

or_parts : (a b : Bool) → (a || b) ≡ false → (a ≡ false) × (b ≡ false)
or_parts false false h = (refl, refl)
or_parts false true h = cc
or_parts true b h = cc

and_nots : (a b : Bool) → (not a && not b) ≡ true → (a ≡ false) × (b ≡ false)
and_nots false false h = (refl, refl)
and_nots false true h = cc
and_nots true b h = cc

lacks_drop : (c n : ℕ) (text : List ℕ) → Lacks c text → Lacks c (drop n text)
lacks_drop c zero text h = h
lacks_drop c (suc n) [] h = refl
lacks_drop c (suc n) (b ∷ bs) h = lacks_drop c n bs (or_parts (b == c) _ h).1

lacks_take : (c n : ℕ) (text : List ℕ) → Lacks c text → Lacks c (take n text)
lacks_take c zero text h = refl
lacks_take c (suc n) [] h = refl
lacks_take c (suc n) (b ∷ bs) h =
    let parts = or_parts (b == c) _ h in
    ap (λ t. t || list_any (λ d. d == c) (take n bs)) parts.0 ∙ lacks_take c n bs parts.1

begins_otherwise : (c : ℕ) (text : List ℕ) → Lacks c text → begins_with c text ≡ false
begins_otherwise c [] h = refl
begins_otherwise c (b ∷ bs) h = (or_parts (b == c) _ h).0

and_false : (a b : Bool) → b ≡ false → (a && b) ≡ false
and_false true b h = h
and_false false b h = refl

no_line_end : (b : ℕ) (bs : List ℕ) → Lacks 10 (b ∷ bs) → begins_line_end (b ∷ bs) ≡ false
no_line_end b bs h =
    let parts = or_parts (b == 10) _ h in
    ap (λ t. t || ((b == 13) && begins_with 10 bs)) parts.0
    ∙ and_false (b == 13) _ (begins_otherwise 10 bs parts.1)

one_line : (body : List ℕ) → Lacks 10 body → without_line_ends body ≡ body
unfolding without_line_ends
one_line [] h = refl
one_line (b ∷ bs) h =
    step b bs ∙ ap (λ t. cond t (without_line_ends bs) (b ∷ without_line_ends bs)) (no_line_end b bs h)
    ∙ ap (λ x. b ∷ x) (one_line bs (or_parts (b == 10) _ h).1)

no_word : (b : ℕ) (bs : List ℕ) → (b == 61) ≡ false → (readable_at (b ∷ bs) ≡ None) × (begins_word (b ∷ bs) ≡ false)
unfolding readable_at word_at begins_word
no_word b [] h = (refl, refl)
no_word b (c ∷ cs) h = (
  ap (λ t. option_and_then read_front (opened_word (cond (t && (c == 63)) (Some cs) None))) h,
  ap (λ t. names_charset (cond (t && (c == 63)) (Some cs) None)) h,
)

plain_shown : (n : ℕ) (line : List ℕ) → length line ≤ n → Lacks 61 line → shown n false line ≡ (line, 0)
plain_shown n [] long h = shown_nil n false
plain_shown zero (b ∷ bs) long h = absurd (omega (arith, long))
plain_shown (suc n) (b ∷ bs) long h =
    let parts = or_parts (b == 61) _ h in
    let none = no_word b bs parts.0 in
    let more = plain_shown n bs (le_of_suc-le-suc long) parts.1 in
    shown_cons n false b bs ∙ ap (λ o. shown_piece o b bs (shown n)) none.0
    ∙ ap₂ (λ (x : List ℕ) (y : ℕ). (x, y)) (ap (λ s. b ∷ s.0) more)
    (omega (arith, ap {B = ℕ} (λ t. cond t 1 0) none.1, ap {B = ℕ} (λ s. s.1) more))

pub plain_line : (body : List ℕ) → is_plain body ≡ true → shown_line (line_of body) ≡ (without_outer_blanks body, 0)
plain_line body h =
    let parts = and_nots (list_any (λ b. b == 10) body) _ h in
    let rest : List ℕ = without_first_blanks body in
    let lacking = lacks_drop 61 (prefix_len is_blank body) body parts.1 in
    ap (λ l. shown_line (without_outer_blanks l)) (one_line body parts.0)
    ∙ plain_shown _ (without_outer_blanks body) (omega arith) (lacks_take 61 (length rest - suffix_len is_blank rest) rest lacking)
