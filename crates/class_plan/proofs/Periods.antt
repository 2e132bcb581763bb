-- A schedule from the parts of its text.
use Rattle.std.proofs.Common.{◌≡◌, ℕ, ◌+◌, ◌<◌, ◌≤◌, Bool, true, false, List, [], length, drop, codes, Option, Some, None, refl, sym, ap, ◌∙◌, arith}
use Rattle.std.proofs.lemmas.List.{drop_all}
use Rattle.std.proofs.lemmas.Bool.Decides.{nat_tests}
use Rattle.std.specs.Str.{bytes_eq}
use Rattle.std.specs.List.{before_first, after_first, position_or_len}
use Rattle.std.specs.Prelude.{nat_le, ◌&&◌}
use Rattle.class_plan.specs.declared.schedules.Unit.{Unit as TimeUnit}
use Rattle.class_plan.specs.declared.schedules.Unit.TheVariants.{Days, Months, Years}
use Rattle.class_plan.specs.declared.schedules.Action.{Action}
use Rattle.class_plan.specs.declared.schedules.Schedule.TheVariants.{Permanent, After}
use Rattle.class_plan.specs.Texts.{count_of, unit_of, ending_of, period_of, is_space, schedule_of_bytes, IsLargeOrNone}
use Rattle.class_plan.specs.Schedules.{most}

pub text-permanent : (t : List ℕ) → bytes_eq t (codes "permanent") ≡ true → Some Permanent ≡ schedule_of_bytes t
unfolding schedule_of_bytes
text-permanent t e = rw e

pub text-parts : (t a r b c : List ℕ) → bytes_eq t (codes "permanent") ≡ false → a ≡ before_first is_space t
    → r ≡ after_first is_space t → b ≡ before_first is_space r → c ≡ after_first is_space r
    → period_of a b c ≡ schedule_of_bytes t
unfolding schedule_of_bytes
text-parts t a r b c e p q x y = rw (e, p, x, y, q)

pub after-none : (xs : List ℕ) → position_or_len is_space xs ≡ length xs → [] ≡ after_first is_space xs
after-none xs e = sym (ap (λ n. drop (n + 1) xs) e ∙ drop_all (length xs + 1) xs (omega arith))

after_number : (o : Option ℕ) (b c : List ℕ) → None ≡ unit_of b → (a : List ℕ) → o ≡ count_of a → None ≡ period_of a b c
unfolding period_of
after_number None b c e a n = rw (← n)
after_number (Some k) b c e a n = rw (← n, ← e)

pub period-no_unit : (a b c : List ℕ) → None ≡ unit_of b → None ≡ period_of a b c
period-no_unit a b c e = after_number (count_of a) b c e a refl

after_unit : (u : Option TimeUnit) (o : Option ℕ) (a b c : List ℕ) → None ≡ ending_of c → u ≡ unit_of b → o ≡ count_of a → None ≡ period_of a b c
unfolding period_of
after_unit u None a b c e h n = rw (← n)
after_unit None (Some k) a b c e h n = rw (← n, ← h)
after_unit (Some u) (Some k) a b c e h n = rw (← n, ← h, ← e)

pub period-no_ending : (a b c : List ℕ) → None ≡ ending_of c → None ≡ period_of a b c
period-no_ending a b c e = after_unit (unit_of b) (count_of a) a b c e refl refl

pub period-made : (a b c : List ℕ) (n : ℕ) (u : TimeUnit) (x : Action × Bool) → count_of a ≡ Some n → Some u ≡ unit_of b
    → Some x ≡ ending_of c → 1 ≤ n → n ≤ most u → Some (After n u x.0 x.1) ≡ period_of a b c
unfolding period_of
period-made a b c n u x d e f low high = rw (d, ← e, ← f) (grind (arith, nat_tests))

pub period-below : (a b c : List ℕ) (n : ℕ) (u : TimeUnit) (x : Action × Bool) → count_of a ≡ Some n
    → Some u ≡ unit_of b → Some x ≡ ending_of c → n < 1 → None ≡ period_of a b c
unfolding period_of
period-below a b c n u x d e f low = rw (d, ← e, ← f) (grind (arith, nat_tests))

pub period-above : (a b c : List ℕ) (n : ℕ) (u : TimeUnit) (x : Action × Bool) → count_of a ≡ Some n
    → Some u ≡ unit_of b → Some x ≡ ending_of c → most u < n → None ≡ period_of a b c
unfolding period_of
period-above a b c n u x d e f high = rw (d, ← e, ← f) (grind (arith, nat_tests))

-- a count that passes is in its range
pub low_of : (n m : ℕ) → (nat_le 1 n && nat_le n m) ≡ true → 1 ≤ n
low_of n m e = grind (arith, nat_tests)

pub high_of : (n m : ℕ) → (nat_le 1 n && nat_le n m) ≡ true → n ≤ m
high_of n m e = grind (arith, nat_tests)

pub most-small : (u : TimeUnit) → most u ≤ 366000
most-small Days = omega arith
most-small Months = omega arith
most-small Years = omega arith

large : (o : Option ℕ) (u : Option TimeUnit) (x : Option (Action × Bool)) (a b c : List ℕ) → IsLargeOrNone o
    → o ≡ count_of a → u ≡ unit_of b → x ≡ ending_of c → None ≡ period_of a b c
unfolding period_of
large None u x a b c h n d e = rw (← n)
large (Some k) None x a b c h n d e = rw (← n, ← d)
large (Some k) (Some u) None a b c h n d e = rw (← n, ← d, ← e)
large (Some k) (Some u) (Some x) a b c h n d e = let most_is = most-small u in period-above a b c k u x (sym n) d e (omega arith)

pub period-large : (a b c : List ℕ) → IsLargeOrNone (count_of a) → None ≡ period_of a b c
period-large a b c h = large (count_of a) (unit_of b) (ending_of c) a b c h refl refl refl
