use Rattle.std.proofs.Common.{◌≡◌, drop}
use Rattle.cli_page.specs.Titles.{title_in}
use Rattle.cli_page.proofs.titles.title_of.Given as goal

abbrev pub invariant-loop-it : goal.invariant-loop-it
invariant-loop-it l = title_in (drop l.it-index l.titles) l.path ≡ title_in l.titles l.path
