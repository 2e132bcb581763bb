use Rattle.std.proofs.Common.{rules, ◌≤◌, ◌∙◌, sym, arith}
use Rattle.session_words.specs.Words.{greatest_number}
use Rattle.session_words.proofs.Digits.{digits_up_to-none, none_lower, some_lower}
use Rattle.session_words.proofs.read_digits.Goals as goal

pub returns-then-not-are_digits-clause-number : goal.returns-then-not-are_digits-clause-number
returns-then-not-are_digits-clause-number c = digits_up_to-none c.args.greatest c.args.word.now (search rules)

pub returns-in-Some-clause-number : goal.returns-in-Some-clause-number
returns-in-Some-clause-number c =
    let fits = c.ranges.greatest.fits in
    let within : c.args.greatest ≤ greatest_number = omega arith in
    c.at_most.ensures.number ∙ some_lower c.args.greatest c.args.word.now c.in-Some.number within (sym c.in-Some.is ∙ c.read_any.ensures)

pub returns-in-None-clause-number : goal.returns-in-None-clause-number
returns-in-None-clause-number c =
    let fits = c.ranges.greatest.fits in
    let within : c.args.greatest ≤ greatest_number = omega arith in
    none_lower c.args.greatest c.args.word.now within (sym c.in-None.is ∙ c.read_any.ensures)
