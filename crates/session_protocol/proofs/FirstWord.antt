-- The first word of a text, and those after it.
use Rattle.std.proofs.Common.{◌≡◌, ℕ, suc, ◌+◌, ◌<◌, ◌≤◌, List, [], ◌∷◌, true, false, Option, Some, None, cond, length, take, drop, refl, arith}
use Rattle.std.specs.Prelude.{◌==◌, not, nat_lt, if◌then◌else◌}
use Rattle.std.specs.List.{position_or_len, onto_first}
use Rattle.std.proofs.lemmas.List.Splits.{slice_split_first}
use Rattle.std.proofs.lemmas.Bool.Decides.{nat_tests}
use Rattle.session_words.specs.Words.{words_of}

-- where the first space stands, or the text's length where there is none
abbrev pub word_length : List ℕ → ℕ
word_length text = position_or_len (λ o. o == 32) text

-- the same, as `position` answers it
abbrev pub space_at : List ℕ → Option ℕ
space_at text = cond (nat_lt (word_length text) (length text)) (Some (word_length text)) None

one_word : (text : List ℕ) → length text ≤ word_length text → words_of text ≡ text ∷ []
one_word [] h = refl
one_word (x ∷ text) h =
    elim (x == 32) as (λ b. suc (length text) ≤ (if not b then 1 + word_length text else 0)
    → cond b ([] ∷ words_of text) (onto_first x (words_of text)) ≡ (x ∷ text) ∷ []) [
      | true ↦ λ n. absurd (omega (arith, n))
      | false ↦ λ n. rw (one_word text (omega (arith, n))) refl
    ] h

space_none : (place size : ℕ) → None ≡ cond (nat_lt place size) (Some place) None → size ≤ place
space_none place size e = grind (arith, nat_tests)

space_some : (at place size : ℕ) → Some at ≡ cond (nat_lt place size) (Some place) None → (place < size) × (at ≡ place)
space_some at place size e = grind (arith, nat_tests)

pub last_word : (text : List ℕ) → None ≡ space_at text → words_of text ≡ text ∷ []
last_word text e = one_word text (space_none _ _ e)

pub word_more : (text : List ℕ) (at : ℕ) → Some at ≡ space_at text → words_of text ≡ take at text ∷ words_of (drop (at + 1) text)
word_more text at e = let f = space_some at (word_length text) (length text) e in rw f.1 (slice_split_first _ text 0 f.0)
