use Rattle.std.proofs.Common.{◌<◌, ◌∙◌, ℕ, List, Option, ap, length, sym, subst, arith}
use Rattle.record_archive.specs.Archive.{Archive}
use Rattle.record_noted.specs.Histories.{rows_of}
use Rattle.cli_history.specs.Walks.{IsNextPage, rows_left}
use Rattle.cli_history.proofs.WalkLemmas.{past_all_rows}
use Rattle.cli_history.proofs.pages.Events.next_page.Goals as goal

pub returns-in_default-clause-page : goal.returns-in_default-clause-page
returns-in_default-clause-page g c = λ clean (a : Archive) (ls : List (List ℕ)) stands. ap (rows_left (rows_of ls)) c.in_default.is

pub returns-then-from-end-clause-page : goal.returns-then-from-end-clause-page
returns-then-from-end-clause-page g c = λ clean (a : Archive) (ls : List (List ℕ)) stands.
    ap (rows_left (rows_of ls)) c.in-Some.is
    ∙ past_all_rows ls c.in-Some.from c.next-end.result (c.next-end.ensures ∙ stands.next) (omega arith)

pub returns-in-Ok-clause-page : goal.returns-in-Ok-clause-page
returns-in-Ok-clause-page g c = λ clean (a : Archive) (ls : List (List ℕ)) stands.
    let few : length ls < 4294967295 = omega (arith, c.next-end.ensures, stands.next) in
    subst (λ (before : Option ℕ). IsNextPage (rows_of ls) before c.go_on.new.self.from c.go_on.result) (sym c.in-Some.is)
    (c.go_on.ensures ls c.in-Some.from few c.in-Some.is (c.in-Ok.ensures.page a ls stands clean))
