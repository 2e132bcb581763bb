-- Words of a line, as they come off its front.
use Rattle.std.proofs.Common.{◌≡◌, ◌<◌, ◌+◌, ℕ, zero, suc, List, [], ◌∷◌, ◌++◌, length, take, drop, get_or, refl, sym, ap, ◌∙◌, append_assoc, arith}
use Rattle.std.specs.List.{join_with_byte}
use native.Mathlib.Numerals.{unary_clauses}
use Rattle.tool_texts.proofs.Joins.{join_one_more}

-- the line that has these words before this rest
abbrev pub pending : List (List ℕ) → List ℕ → List ℕ
pending [] r = r
pending (w ∷ ws) r = join_with_byte 32 (w ∷ ws) ++ (32 ∷ r)

-- the rest is the last word
pub pending_last : (ws : List (List ℕ)) (r : List ℕ) → join_with_byte 32 (ws ++ r ∷ []) ≡ pending ws r
pending_last [] r = refl
pending_last (w ∷ ws) r = join_one_more 32 r w ws

-- the rest begins with a word and a space
pub pending_more : (ws : List (List ℕ)) (a b : List ℕ) → pending ws (a ++ (32 ∷ b)) ≡ pending (ws ++ a ∷ []) b
pending_more [] a b = refl
pending_more (w ∷ ws) a b = sym (ap (λ x. x ++ (32 ∷ b)) (join_one_more 32 a w ws) ∙ append_assoc (join_with_byte 32 (w ∷ ws)) (32 ∷ a) (32 ∷ b))

split_suc : (r : List ℕ) (k : ℕ) → k < length r → get_or r k 0 ≡ 32 → r ≡ take k r ++ (32 ∷ drop (suc k) r)
split_suc [] k lt is = absurd (omega (arith, lt))
split_suc (x ∷ r) zero lt is = ap (λ y. y ∷ r) is
split_suc (x ∷ r) (suc k) lt is = ap (λ y. x ∷ y) (split_suc r k (omega (arith, lt)) is)

pub split_at : (r : List ℕ) (k : ℕ) → k < length r → get_or r k 0 ≡ 32 → r ≡ take k r ++ (32 ∷ drop (k + 1) r)
split_at r k lt is = simp unary_clauses (split_suc r k lt is)
