use Rattle.std.proofs.Common.{ℕ, List, subst}
use Rattle.record_archive.specs.Archive.{Archive}
use Rattle.record_noted.specs.Histories.{rows_of}
use Rattle.cli_history.specs.Captures.{AreCaptured}
use Rattle.cli_history.proofs.CaptureLemmas.{none_captured}
use Rattle.cli_history.proofs.captured.captured_for.Goals as goal

pub returns-clause-captured : goal.returns-clause-captured
returns-clause-captured g c = λ clean (a : Archive) (ls : List (List ℕ)) stands keeps.
    subst (λ (officer : List ℕ). AreCaptured officer c.take_all.new.known (rows_of ls)) c.as_bytes.ensures.value
    (c.in_ok-take_all.ensures.captured (none_captured c.as_bytes.result.now c.none-known.result c.none-known.ensures) clean a ls stands
    (record { few = keeps.few; rows = λ is_open. keeps.rows }))
