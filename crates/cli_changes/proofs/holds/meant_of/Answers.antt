use Rattle.std.proofs.Common.{◌∙◌, ◌++◌, ap, map}
use Rattle.record_archive.specs.Archive.{Archive}
use Rattle.record_choice.specs.Entries.{entry_view}
use Rattle.cli_changes.specs.Holdings.{meant_numbers}
use Rattle.cli_changes.proofs.holds.meant_of.Goals as goal

pub returns-clause-meant : goal.returns-clause-meant
returns-clause-meant g c = λ clean (a : Archive) s.
    let took = c.in_ok-read_found.ensures.taken clean a s in
    let hold = c.args.hold in
    let start = c.new.ensures.items in
    took.2.numbers
    ∙ ap (λ l. l ++ meant_numbers hold.change hold.name.now c.args.typed.now (map entry_view took.0)) start
    ∙ ap (meant_numbers hold.change hold.name.now c.args.typed.now) took.1
