use Rattle.std.proofs.Common.{◌≡◌, ◌≤◌, ℕ, nat_lt, Bool, true, false, cond, length, Some, None, sym, ◌∙◌, arith, refl}
use Rattle.std.proofs.lemmas.Bool.Decides.{nat_tests}
use Rattle.std.proofs.lemmas.List.Sums.{prefix_len-le-length}
use Rattle.std.specs.List.{position_or_len}
use Rattle.class_plan.specs.Texts.{is_space}
use Rattle.class_plan.proofs.texts.split_at_space.Goals as goal

at_end : (n m : ℕ) → false ≡ nat_lt n m → n ≤ m → n ≡ m
at_end n m e h = grind (arith, nat_tests)

no_place : (n m : ℕ) (b : Bool) → b ≡ nat_lt n m → n ≤ m → None ≡ cond b (Some n) None → n ≡ m
no_place n m true e h k = absurd (cc)
no_place n m false e h k = at_end n m e h

pub returns-in-None : goal.returns-in-None
returns-in-None c =
    no_place (position_or_len is_space c.args.text.now) (length c.args.text.now) _ refl
    (prefix_len-le-length _ c.args.text.now) (sym c.in-None.is ∙ c.first_space.ensures)
