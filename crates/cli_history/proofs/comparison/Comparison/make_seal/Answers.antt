use Rattle.std.proofs.Common.{◌∙◌, ℕ, List, Option, Some, Ok, ap, subst, sym}
use Rattle.std.specs.Prelude.{IfSome}
use Rattle.record_archive.specs.Archive.{Archive}
use Rattle.cli_history.specs.Made.{AreSealsOf}
use Rattle.cli_history.specs.declared.stored.StoredSeals.{StoredSeals}
use Rattle.cli_history.proofs.ComparisonLemmas.{seals_noted}
use Rattle.cli_history.proofs.comparison.Comparison.make_seal.Goals as goal

pub returns-clause-seals : goal.returns-clause-seals
returns-clause-seals g c = λ clean (a : Archive) (ls : List (List ℕ)) stands there are.
    seals_noted a c.args.entry.now c.in-Some.stored c.note.new.self c.as_slice.result.now there
    (c.in-Ok.ensures.tells a ls stands clean ∙ ap (λ body. Ok (Some body)) (sym c.as_slice.ensures.value)) c.in_ok-note.ensures
    (subst (λ (seals : Option StoredSeals). IfSome seals (AreSealsOf a)) c.in-Some.is are)
