use Rattle.std.proofs.Common.{◌≡◌, ◌≤◌, ◌<◌, [], arith, sym, ◌∙◌, refl}
use Rattle.class_plan.specs.Schedules.{most}
use Rattle.class_plan.specs.Texts.{period_of, schedule_of_bytes}
use Rattle.class_plan.proofs.Periods.{text-permanent, text-parts, after-none, period-no_unit, period-no_ending}
use Rattle.class_plan.proofs.Periods.{period-made, period-below, period-above, period-large}
use Rattle.class_plan.proofs.Spelled.{text-read}
use Rattle.class_plan.proofs.texts.schedule_of_text.Goals.{In-Some-split_at_space}
use Rattle.class_plan.proofs.texts.schedule_of_text.Goals as goal
use Rattle.class_plan.proofs.texts.schedule_of_text.Goals.{then-count-lt1-via-then-count-lt1, then-count-lt1-via-else-count-lt1+then-count-limit_of}

pub returns-then-eq-clause-schedule : goal.returns-then-eq-clause-schedule
returns-then-eq-clause-schedule c = text-permanent _ (sym c.eq.ensures ∙ c.if-eq.true)

pub returns-in_default-clause-schedule : goal.returns-in_default-clause-schedule
returns-in_default-clause-schedule c =
    let cut = rw c.in_default.is at c.split_at_space.ensures in
    let none = after-none _ cut in
    period-no_unit _ _ _ refl ∙ text-parts _ _ [] [] _ (sym c.eq.ensures ∙ c.if-eq.false) refl none refl refl

pub returns-in_default-split_at_space-clause-schedule : goal.returns-in_default-split_at_space-clause-schedule
returns-in_default-split_at_space-clause-schedule c =
    let one = rw c.in-Some.is at c.split_at_space.ensures in
    let two = rw c.in_default-split_at_space.is at c.split_at_space-2.ensures in
    let none = after-none _ two in
    period-no_ending _ _ _ refl ∙ text-parts _ _ _ _ [] (sym c.eq.ensures ∙ c.if-eq.false) one.0 one.1 refl none

-- the text's parts, cut at its first two spaces
parts : (c : In-Some-split_at_space) → period_of c.in-Some.count.now c.in-Some-split_at_space.unit.now c.in-Some-split_at_space.ending.now
    ≡ schedule_of_bytes c.args.text.now
parts c =
    let one = rw c.in-Some.is at c.split_at_space.ensures in
    let two = rw c.in-Some-split_at_space.is at c.split_at_space-2.ensures in
    text-parts _ _ _ _ _ (sym c.eq.ensures ∙ c.if-eq.false) one.0 one.1 two.0 two.1

pub returns-in_default-read_count-clause-schedule : goal.returns-in_default-read_count-clause-schedule
returns-in_default-read_count-clause-schedule c =
    let large = rw c.in_default-read_count.is at c.read_count.ensures in
    period-large _ _ _ large ∙ parts (goal.at.returns-in_default-read_count-clause-schedule c).In-Some-split_at_space

pub returns-in_default-read_unit-clause-schedule : goal.returns-in_default-read_unit-clause-schedule
returns-in_default-read_unit-clause-schedule c =
    period-no_unit _ _ _ (sym c.in_default-read_unit.is ∙ c.read_unit.ensures)
    ∙ parts (goal.at.returns-in_default-read_unit-clause-schedule c).In-Some-split_at_space

pub returns-in_default-read_ending-clause-schedule : goal.returns-in_default-read_ending-clause-schedule
returns-in_default-read_ending-clause-schedule c =
    period-no_ending _ _ _ (sym c.in_default-read_ending.is ∙ c.read_ending.ensures)
    ∙ parts (goal.at.returns-in_default-read_ending-clause-schedule c).In-Some-split_at_space

pub returns-then-count-lt1-clause-schedule : goal.returns-then-count-lt1-clause-schedule
returns-then-count-lt1-clause-schedule c =
    let number = rw c.in-Some-read_count.is at c.read_count.ensures in
    let unit = sym c.in-Some-read_unit.is ∙ c.read_unit.ensures in
    let ending = sym c.in-Some-read_ending.is ∙ c.read_ending.ensures in
    elim c.then-count-lt1.branch [
      | then-count-lt1-via-then-count-lt1 w ↦
          let low : c.in-Some-read_count.count < 1 = omega arith in period-below _ _ _ _ _ _ number unit ending low
      | then-count-lt1-via-else-count-lt1+then-count-limit_of w ↦
          let high : most c.in-Some-read_unit.unit < c.in-Some-read_count.count = omega arith in
          period-above _ _ _ _ _ _ number unit ending high
    ] ∙ parts (goal.at.returns-then-count-lt1-clause-schedule c).In-Some-split_at_space

pub returns-clause-schedule : goal.returns-clause-schedule
returns-clause-schedule c =
    let number = rw c.in-Some-read_count.is at c.read_count.ensures in
    let low : 1 ≤ c.in-Some-read_count.count = omega arith in
    let high : c.in-Some-read_count.count ≤ most c.in-Some-read_unit.unit = omega arith in
    period-made _ _ _ _ _ _ number (sym c.in-Some-read_unit.is ∙ c.read_unit.ensures) (sym c.in-Some-read_ending.is
    ∙ c.read_ending.ensures) low high ∙ parts (goal.at.returns-clause-schedule c).In-Some-split_at_space

pub returns-clause-text : goal.returns-clause-text
returns-clause-text c = text-read c.args.text.now _ (sym (returns-clause-schedule c))
