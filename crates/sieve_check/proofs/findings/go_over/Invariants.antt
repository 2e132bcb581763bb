use Rattle.std.proofs.Common.{◌≡◌}
use Rattle.sieve_check.specs.Context.{has_of}
use Rattle.sieve_check.specs.Findings.{no_findings, findings_in}
use Rattle.sieve_check.specs.Views.{form_view}
use Rattle.sieve_check.specs.PieceViews.{pieces_left}
use Rattle.sieve_check.specs.Pieces.{pieces}
use Rattle.sieve_check.proofs.findings.go_over.Given as goal

abbrev pub invariant-loop-piece : goal.invariant-loop-piece
invariant-loop-piece l = findings_in (has_of l.fn.named) l.found (pieces_left l.piece-iterator)
    ≡ findings_in (has_of l.fn.named) no_findings (pieces (form_view l.fn.form).tags l.fn.arguments)
