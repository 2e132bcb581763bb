use Rattle.std.proofs.Common.{◌∙◌, ℕ, List, sym}
use Rattle.record_archive.specs.Archive.{Archive}
use Rattle.cli_history.proofs.restating.changes_apart.Goals as goal

pub returns-then-is_same-clause-made : goal.returns-then-is_same-clause-made
returns-then-is_same-clause-made g c = λ none clean (a : Archive) (ls : List (List ℕ)) stands.
    c.in_ok-comparison.ensures.same (sym c.is_same.ensures ∙ c.if-is_same.true) clean a ls stands
