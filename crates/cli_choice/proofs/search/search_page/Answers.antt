use Rattle.std.proofs.Common.{Some, map, subst, sym, ◌∙◌}
use Rattle.record_archive.specs.Archive.{Archive}
use Rattle.record_choice.specs.Entries.{entry_view}
use Rattle.record_choice.specs.Views.{choice_view}
use Rattle.record_choice.specs.Walks.{IsPageOf}
use Rattle.cli_choice.specs.Questions.{is_found, is_missed}
use Rattle.cli_choice.proofs.Parting.{part_is, none_missed, asked_is}
use Rattle.cli_choice.proofs.search.search_page.Goals as goal

pub returns-then-is_nothing-clause-unread : goal.returns-then-is_nothing-clause-unread
returns-then-is_nothing-clause-unread g c = λ clean (a : Archive) s.
    subst
    (λ l. IsPageOf (Some (is_missed c.args.questions.now)) (choice_view c.args.choice.now) a (Some c.args.from) (map entry_view l)
    c.in_ok-page.page.next) (sym c.new-then-is_nothing.ensures.items)
    (none_missed c.args.questions.now (sym c.is_nothing.ensures ∙ c.if-is_nothing.true) (choice_view c.args.choice.now) a (Some c.args.from)
    c.in_ok-page.page.next)

pub returns-clause-found : goal.returns-clause-found
returns-clause-found g c = λ clean (a : Archive) s.
    let before = c.part.ensures.reads.falls clean in
    subst
    (λ q. IsPageOf q (choice_view c.args.choice.now) a (Some c.args.from) (map entry_view c.in_ok-parts.parts.found.items)
    c.in_ok-page.page.next) (asked_is c.args.questions.now (sym c.is_nothing.ensures ∙ c.if-is_nothing.false))
    (part_is (is_found c.args.questions.now) (choice_view c.args.choice.now) a (g.met.R.Repository.is_archive c.args.records.now a s)
    (Some c.args.from) c.in_ok-page.page.next (map entry_view c.in_ok-page.page.chosen.items)
    (map entry_view c.in_ok-parts.parts.found.items) (c.in_ok-page.ensures.page before a s)
    (c.in_ok-parts.ensures.found clean a (c.in_ok-page.ensures.reads.stands a s)))

pub returns-clause-unread : goal.returns-clause-unread
returns-clause-unread g c = λ clean (a : Archive) s.
    let before = c.part.ensures.reads.falls clean in
    part_is (is_missed c.args.questions.now) (choice_view c.args.choice.now) a (g.met.R.Repository.is_archive c.args.records.now a s)
    (Some c.args.from) c.in_ok-page.page.next (map entry_view c.in_ok-page.page.chosen.items)
    (map entry_view c.in_ok-parts.parts.unread.items) (c.in_ok-page.ensures.page before a s)
    (c.in_ok-parts.ensures.unread clean a (c.in_ok-page.ensures.reads.stands a s))
