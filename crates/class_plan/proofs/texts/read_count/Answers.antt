use Rattle.std.proofs.Common.{◌≡◌, ◌<◌, nat_le, ◌&&◌, false, length, get_or, drop, rules, arith, sym, ◌∙◌}
use Rattle.class_plan.proofs.Numbers.{number-bad, number-large}
use Rattle.class_plan.proofs.texts.read_count.Goals as goal
use Rattle.class_plan.proofs.texts.read_count.Goals.{then-not-is_ascii_digit-via-then-not-is_ascii_digit}
use Rattle.class_plan.proofs.texts.read_count.Goals.{then-not-is_ascii_digit-via-else-not-is_ascii_digit+then-count-gt-MAX_COUNT}

pub returns-then-not-is_ascii_digit : goal.returns-then-not-is_ascii_digit
returns-then-not-is_ascii_digit c = elim c.then-not-is_ascii_digit.branch [
  | then-not-is_ascii_digit-via-then-not-is_ascii_digit w ↦
      let h : c.loop-octet.octet-index < length c.args.word.now = search rules in
      let d : (nat_le 48 (get_or c.args.word.now c.loop-octet.octet-index 0)
      && nat_le (get_or c.args.word.now c.loop-octet.octet-index 0) 57) ≡ false = sym c.is_ascii_digit.ensures.value
      ∙ w.if-not-is_ascii_digit.true in
      rw (c.loop-octet.invariant.value, number-bad _ _ c.loop-octet.count h d) tt
  | then-not-is_ascii_digit-via-else-not-is_ascii_digit+then-count-gt-MAX_COUNT w ↦
      let h : 366000 < c.loop-octet.count = omega arith in
      rw (c.loop-octet.invariant.value) (number-large c.loop-octet.count (drop c.loop-octet.octet-index c.args.word.now) h)
]
