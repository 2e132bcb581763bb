-- Unfolding, octet by octet.
use Rattle.std.proofs.Common.{◌≡◌, ℕ, suc, ◌≤◌, length, arith, Bool, true, false, cond, List, [], ◌∷◌, ◌++◌, refl, sym, ap, ◌∙◌, append_assoc}
use Rattle.std.proofs.lemmas.List.{append-nil}
use Rattle.mail_words.specs.Unfolding.{begins_line_end, without_line_ends}

pub step : (b : ℕ) (bs : List ℕ) → without_line_ends (b ∷ bs) ≡ cond (begins_line_end (b ∷ bs)) (without_line_ends bs) (b ∷ without_line_ends bs)
unfolding without_line_ends
step b bs = refl

-- an octet that is kept
pub kept : (line rest bs new all : List ℕ) (b : ℕ) → rest ≡ b ∷ bs → line ++ without_line_ends rest ≡ all
    → begins_line_end rest ≡ false → new ≡ line ++ b ∷ [] → new ++ without_line_ends bs ≡ all
kept line rest bs new all b cut h ends put =
    ap (λ x. x ++ without_line_ends bs) put ∙ append_assoc line (b ∷ []) (without_line_ends bs)
    ∙ ap (λ x. line ++ x) (sym (ap without_line_ends cut ∙ step b bs
    ∙ ap (λ t. cond t (without_line_ends bs) (b ∷ without_line_ends bs)) (ap begins_line_end (sym cut) ∙ ends))) ∙ h

-- an octet of a line end
pub passed : (line rest bs all : List ℕ) (b : ℕ) → rest ≡ b ∷ bs → line ++ without_line_ends rest ≡ all
    → begins_line_end rest ≡ true → line ++ without_line_ends bs ≡ all
passed line rest bs all b cut h ends =
    ap (λ x. line ++ x) (sym (ap without_line_ends cut ∙ step b bs
    ∙ ap (λ t. cond t (without_line_ends bs) (b ∷ without_line_ends bs)) (ap begins_line_end (sym cut) ∙ ends))) ∙ h

pub empty : (rest : List ℕ) → length rest ≡ 0 → rest ≡ []
empty [] e = refl
empty (b ∷ bs) e = absurd (omega (arith, e))

pub unfolded-short : (text : List ℕ) → length (without_line_ends text) ≤ length text
unfolding without_line_ends
unfolded-short [] = omega arith
unfolded-short (b ∷ bs) = omega (arith, unfolded-short bs, ap length (step b bs), chosen (begins_line_end (b ∷ bs)) (without_line_ends bs) b)
  where
    chosen : (t : Bool) (xs : List ℕ) (b : ℕ) → length (cond t xs (b ∷ xs)) ≤ suc (length xs)
    chosen true xs b = omega arith
    chosen false xs b = omega arith

pub done : (line rest all : List ℕ) → rest ≡ [] → line ++ without_line_ends rest ≡ all → line ≡ all
unfolding without_line_ends
done line rest all e h = sym (append-nil line) ∙ ap (λ x. line ++ without_line_ends x) (sym e) ∙ h
