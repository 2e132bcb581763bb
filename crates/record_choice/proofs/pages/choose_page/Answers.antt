use Rattle.std.proofs.Common.{map, option_map}
use Rattle.record_archive.specs.Archive.{Archive}
use Rattle.record_choice.specs.Entries.{entry_view}
use Rattle.record_choice.specs.Views.{choice_view}
use Rattle.record_choice.proofs.PageLaws.{goes_up}
use Rattle.record_choice.proofs.QuestionLaws.{page_is}
use Rattle.record_choice.proofs.pages.choose_page.Goals as goal

pub returns-clause-page : goal.returns-clause-page
returns-clause-page g c = λ clean (a : Archive) s.
    let before = c.keep_asked.ensures.reads.falls clean in
    rw c.number_above.ensures
    (page_is (option_map (λ j. g.J.Judge.asks j.now) c.args.question) (choice_view c.args.choice.now) a
    (g.met.R.Repository.is_archive c.args.records.now a s) c.args.from c.args.most c.requires
    (map entry_view c.in-Ok.entries.items) (map entry_view c.in_ok-met.met.items) (map entry_view c.in_ok-chosen.chosen.items)
    c.in_ok-met.last (c.in-Ok.ensures.told before a s) c.in_ok-met.ensures.chosen
    (c.in_ok-chosen.ensures.kept clean a (c.in-Ok.ensures.reads.stands a s)) c.in_ok-met.ensures.last)

pub returns-clause-on : goal.returns-clause-on
returns-clause-on g c = λ clean (a : Archive) s.
    let before = c.keep_asked.ensures.reads.falls clean in
    rw c.number_above.ensures
    (goes_up a (g.met.R.Repository.is_archive c.args.records.now a s) c.args.from c.args.most (map entry_view c.in-Ok.entries.items)
    c.in_ok-met.last (c.in-Ok.ensures.told before a s) c.in_ok-met.ensures.last)
