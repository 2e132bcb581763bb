use Rattle.std.proofs.Common.{◌∙◌, ℕ, List, subst, sym}
use Rattle.record_archive.specs.Archive.{Archive}
use Rattle.record_judge.specs.declared.sealed.SealedArchive.{SealedArchive}
use Rattle.cli_history.specs.Made.{IsMadeWhole}
use Rattle.cli_history.proofs.judging.is_explained.Goals as goal

pub returns-clause-made : goal.returns-clause-made
returns-clause-made g c = λ same clean (a : Archive) (ls : List (List ℕ)) stands.
    subst (λ (made : SealedArchive). IsMadeWhole c.args.stored made a) c.archive.ensures
    (c.in_ok-comparison.ensures.same (sym c.is_same.ensures ∙ same) (c.tell_differences.ensures.falls clean) a ls stands)
