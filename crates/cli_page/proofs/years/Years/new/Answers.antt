use Rattle.std.proofs.Common.{rules}
use Rattle.cli_page.specs.Columns.{no_years}
use Rattle.cli_page.proofs.years.Years.new.Goals as goal

pub returns-clause-none : goal.returns-clause-none
unfolding no_years
returns-clause-none c = c.in_ok-years.ensures.items_if_clones_equal (λ y h. search rules)
