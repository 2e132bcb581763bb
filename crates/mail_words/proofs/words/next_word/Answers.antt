use Rattle.std.proofs.Common.{◌+◌, ap, sym, ◌∙◌, Some}
use Rattle.mail_words.specs.Unfolding.{without_line_ends}
use Rattle.mail_words.proofs.WordLemmas.{Searched-none, Placed-found, Searched-end, Placed-word, Placed-no, Placed-other}
use Rattle.mail_words.proofs.SpellingLemmas.{first_word-spelled}
use Rattle.mail_words.proofs.words.next_word.Goals as goal
use Rattle.mail_words.proofs.words.next_word.Goals.{then-may_begin_after+in_default-followed_word, else-may_begin_after}

pub loop-step-init : goal.loop-step-init
loop-step-init c = Searched-none c.args.text.now

pub returns-in-Some-followed_word-clause-first : goal.returns-in-Some-followed_word-clause-first
returns-in-Some-followed_word-clause-first c =
    let place = Placed-found c.args.text.now c.loop-step.from c.in-Some.step c.loop-step.invariant c.in-Some.ensures in
    ap Some c.with_gap.ensures
    ∙ Placed-word c.args.text.now c.split_at.result.0.now c.split_at.result.1.now
    (c.loop-step.from + c.in-Some.step) c.in-Some-followed_word.front.0 c.in-Some-followed_word.front.1 place
    (sym c.if-may_begin_after.true ∙ c.may_begin_after.ensures) c.split_at.ensures.front c.split_at.ensures.back
    c.in-Some-followed_word.ensures

pub returns-in-Some-followed_word-clause-spelled : goal.returns-in-Some-followed_word-clause-spelled
returns-in-Some-followed_word-clause-spelled c =
    let place = Placed-found c.args.text.now c.loop-step.from c.in-Some.step c.loop-step.invariant c.in-Some.ensures in
    first_word-spelled (without_line_ends c.args.text.now) c.with_gap.result.0 c.with_gap.result.2 c.with_gap.result.1
    (ap Some c.with_gap.ensures
    ∙ Placed-word c.args.text.now c.split_at.result.0.now c.split_at.result.1.now
    (c.loop-step.from + c.in-Some.step) c.in-Some-followed_word.front.0 c.in-Some-followed_word.front.1 place
    (sym c.if-may_begin_after.true ∙ c.may_begin_after.ensures) c.split_at.ensures.front c.split_at.ensures.back
    c.in-Some-followed_word.ensures)

pub loop-step-preserved : goal.loop-step-preserved
loop-step-preserved c =
    let place = Placed-found c.args.text.now c.loop-step.from c.in-Some.step c.loop-step.invariant c.in-Some.ensures in
    elim c.if-may_begin_after.branch [
      | then-may_begin_after+in_default-followed_word w ↦
          Placed-other c.args.text.now c.split_at.result.0.now c.split_at.result.1.now
          (c.loop-step.from + c.in-Some.step) place c.split_at.ensures.front c.split_at.ensures.back
          w.in_default-followed_word.ensures
      | else-may_begin_after w ↦
          Placed-no c.args.text.now c.split_at.result.0.now c.split_at.result.1.now (c.loop-step.from + c.in-Some.step)
          place c.split_at.ensures.front c.split_at.ensures.back (sym w.if-may_begin_after.false
          ∙ c.may_begin_after.ensures)
    ]

pub returns-clause-first : goal.returns-clause-first
returns-clause-first c = Searched-end c.args.text.now c.loop-step.from c.loop-step.invariant c.in_default.ensures
