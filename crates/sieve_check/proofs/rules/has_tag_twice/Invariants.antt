use Rattle.std.proofs.Common.{◌≡◌, drop, map}
use Rattle.std.specs.List.{list_any}
use Rattle.sieve_check.specs.Views.{tag_view, form_view}
use Rattle.sieve_check.specs.Pieces.{pieces}
use Rattle.sieve_check.specs.Rules.{stands_twice, has_tag_twice}
use Rattle.sieve_check.proofs.rules.has_tag_twice.Given as goal

abbrev pub invariant-loop-row : goal.invariant-loop-row
invariant-loop-row l =
    list_any (λ w. stands_twice w.kind (pieces (form_view l.form).tags l.arguments))
    (map tag_view (drop l.row-index l.row-items))
    ≡ has_tag_twice (form_view l.form) (pieces (form_view l.form).tags l.arguments)
