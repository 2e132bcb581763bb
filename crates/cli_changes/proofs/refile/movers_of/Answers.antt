use Rattle.std.proofs.Common.{◌∙◌, ◌++◌, ap, map}
use Rattle.record_archive.specs.Archive.{Archive}
use Rattle.record_choice.specs.Entries.{entry_view}
use Rattle.cli_changes.specs.Moves.{moving_numbers}
use Rattle.cli_changes.proofs.refile.movers_of.Goals as goal

pub returns-clause-movers : goal.returns-clause-movers
returns-clause-movers g c = λ clean (a : Archive) s.
    let took = c.in_ok-read_found.ensures.taken clean a s in
    let to = c.args.to.now in
    took.2.numbers
    ∙ ap (λ l. l ++ moving_numbers to (map entry_view took.0)) c.new.ensures.items
    ∙ ap (moving_numbers to) (took.1 ∙ c.in_ok-search.ensures.found a (g.met.R.Repository.is_archive c.args.archive.now a s))
