use Rattle.std.proofs.Common.{◌∙◌, [], ℕ, List, Option, ap, sym, subst, take}
use Rattle.record_noted.specs.Histories.{rows_of}
use Rattle.record_noted.proofs.OpeningLemmas.{from_rows}
use Rattle.cli_history.specs.Walks.{IsNextPage, rows_left}
use Rattle.cli_history.proofs.pages.Events.next_page_of.Goals as goal

pub returns-in_default-clause-page : goal.returns-in_default-clause-page
returns-in_default-clause-page g c = λ clean (ls : List (List ℕ)) has. ap (rows_left (rows_of ls)) c.in_default.is

pub returns-in-Ok-clause-page : goal.returns-in-Ok-clause-page
returns-in-Ok-clause-page g c = λ clean (ls : List (List ℕ)) has.
    let was_open = (c.in-Ok.ensures.beside.«open» clean).0 in
    let page = c.in-Ok.ensures.all clean (rows_of ls) (has.rows was_open) ∙ ap (take 1000) (from_rows c.in-Some.from 1 [] ls) in
    subst (λ (before : Option ℕ). IsNextPage (rows_of ls) before c.go_on.new.self.from c.go_on.result) (sym c.in-Some.is)
    (c.go_on.ensures ls c.in-Some.from has.few c.in-Some.is page)
