use Rattle.std.proofs.Common.{◌∙◌}
use Rattle.record_archive.specs.Archive.{Archive, Record}
use Rattle.record_choice.specs.Entries.{entry_view}
use Rattle.record_choice.specs.Views.{choice_view}
use Rattle.record_choice.proofs.EntryLaws.{meets_shown}
use Rattle.record_choice.proofs.choice.Choice.meets.Goals as goal

pub returns-clause-meets : goal.returns-clause-meets
returns-clause-meets c = λ (a : Archive) (r : Record) e.
    c.is_shown.ensures ∙ meets_shown (choice_view c.args.self.now) (entry_view c.args.entry.now) a r e
