use Rattle.std.proofs.Common.{◌≡◌, ◌∙◌, arith, length}
use Rattle.std.proofs.lemmas.Bool.Decides.{nat_tests}
use Rattle.jiff.specs.Words.{epoch_day}
use Rattle.record_archive.specs.Archive.{Archive}
use Rattle.record_choice.specs.Disposals.{disposable_list}
use Rattle.record_choice.proofs.Asked.{none_asked}
use Rattle.record_choice.proofs.disposal.asked_lines.Goals as goal

pub returns-then-is_empty-clause-lines : goal.returns-then-is_empty-clause-lines
returns-then-is_empty-clause-lines g c = λ clean (a : Archive) s.
    let none : length c.args.asked.now ≡ 0 = grind (arith, nat_tests, c.is_empty.ensures, c.if-is_empty.true) in
    c.in_ok-lines.ensures.told clean a (c.judge_each.ensures.reads.stands a s)
    ∙ none_asked c.args.asked.now (disposable_list a (epoch_day c.args.day)) none
