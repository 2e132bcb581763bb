use Rattle.std.proofs.Common.{◌∙◌, None, ap, map}
use Rattle.record_archive.specs.Archive.{Archive}
use Rattle.record_choice.specs.Choices.{Choice, chosen}
use Rattle.record_choice.specs.Entries.{entry_of}
use Rattle.cli_changes.specs.Holdings.{held_by}
use Rattle.cli_changes.proofs.LookingLaws.{seen_found}
use Rattle.cli_changes.proofs.holds.is_held_by.Goals as goal

pub returns-clause-held : goal.returns-clause-held
returns-clause-held g c = λ clean (a : Archive) s.
    let took = c.in_ok-read_chosen.ensures.taken clean a s in
    seen_found took.0 (held_by c.args.name.now a) c.read_chosen.new.reader.is_any
    (took.1 ∙ ap (λ (d : Choice). map (entry_of a) (chosen None d a)) c.in_ok-held_choice.ensures) took.2
