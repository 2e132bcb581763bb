use Rattle.std.proofs.Common.{◌≡◌}
use Rattle.std.specs.Cmp.Lexicographic.{pointwise}
use Rattle.sieve_check.specs.Views.{form_view}
use Rattle.sieve_check.specs.PieceViews.{pieces_left}
use Rattle.sieve_check.specs.Pieces.{pieces, positional_arguments}
use Rattle.sieve_check.specs.Rules.{takes, fits}
use Rattle.sieve_check.proofs.rules.fits.Given as goal

abbrev pub invariant-loop-piece : goal.invariant-loop-piece
invariant-loop-piece l = pointwise takes l.expected (positional_arguments (pieces_left l.piece-iterator))
    ≡ fits (form_view l.fn.form) (pieces (form_view l.fn.form).tags l.fn.arguments)
