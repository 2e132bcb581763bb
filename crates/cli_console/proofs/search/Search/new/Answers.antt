use Rattle.std.proofs.Common.{◌∙◌, ◌&&◌, ap, map, filter, nat_le}
use Rattle.record_archive.specs.Archive.{Archive, Record}
use Rattle.record_choice.specs.Choices.{Choice, meets_asked}
use Rattle.record_choice.specs.Entries.{entry_of}
use Rattle.record_choice.specs.Views.{choice_view, span_view}
use Rattle.cli_choice.specs.Questions.{question_of}
use Rattle.cli_console.proofs.Ahead.{all_ahead, bounds_hold}
use Rattle.cli_console.proofs.search.Search.new.Goals as goal

pub returns-clause-bounded : goal.returns-clause-bounded
returns-clause-bounded g c = λ n one small asked.
    (bounds_hold (choice_view c.in_ok-choice_of.field-0) c.args.typed.now c.as_slice.result.now (span_view c.bounds_of-bounds.result)
    c.in_ok-choice_of.ensures c.as_slice.ensures.value c.bounds_of-bounds.ensures.typed c.bounds_of-bounds.ensures.every n one small asked).1

pub returns-clause-found : goal.returns-clause-found
returns-clause-found g c = λ (a : Archive) is.
    let q = question_of c.args.questions.now in
    let typed = c.args.typed.now in
    all_ahead q (choice_view c.in_ok-choice_of.field-0) a is c.first_number.result typed.from (λ n one small asked.
    c.first_number.ensures n (bounds_hold (choice_view c.in_ok-choice_of.field-0) typed c.as_slice.result.now (span_view c.bounds_of-bounds.result)
    c.in_ok-choice_of.ensures c.as_slice.ensures.value c.bounds_of-bounds.ensures.typed c.bounds_of-bounds.ensures.every n one small asked).0)
    ∙ ap (λ (d : Choice). map (entry_of a) (filter (λ (r : Record). nat_le typed.from r.number && meets_asked q d a r) a.records))
    c.in_ok-choice_of.ensures
