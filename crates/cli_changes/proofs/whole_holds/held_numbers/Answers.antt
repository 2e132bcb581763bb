use Rattle.std.proofs.Common.{◌∙◌, ◌++◌, None, ap, map}
use Rattle.record_archive.specs.Archive.{Archive}
use Rattle.record_choice.specs.Choices.{Choice, chosen}
use Rattle.record_choice.specs.Entries.{entry_of, entry_view}
use Rattle.cli_console.specs.Finds.{numbers_of}
use Rattle.cli_changes.proofs.whole_holds.held_numbers.Goals as goal

pub returns-clause-listed : goal.returns-clause-listed
returns-clause-listed g c = λ clean (a : Archive) s.
    let took = c.in_ok-read_chosen.ensures.taken clean a s in
    took.2 ∙ ap (λ l. l ++ numbers_of (map entry_view took.0)) c.new.ensures.items
    ∙ ap numbers_of (took.1 ∙ ap (λ (d : Choice). map (entry_of a) (chosen None d a)) c.in_ok-held_choice.ensures)
