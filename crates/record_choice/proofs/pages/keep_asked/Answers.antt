use Rattle.std.proofs.Common.{map}
use Rattle.record_archive.specs.Archive.{Archive}
use Rattle.record_choice.specs.Entries.{entry_view}
use Rattle.record_choice.proofs.QuestionLaws.{kept_all}
use Rattle.record_choice.proofs.pages.keep_asked.Goals as goal

pub returns-in-None-clause-kept : goal.returns-in-None-clause-kept
returns-in-None-clause-kept g c = rw c.in-None.is (λ clean (a : Archive) s. kept_all (map entry_view c.args.entries.items))
