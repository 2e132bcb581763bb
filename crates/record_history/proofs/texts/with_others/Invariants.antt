use Rattle.std.proofs.Common.{◌≡◌, ◌++◌, map, drop}
use Rattle.std.specs.Prelude.{flat_map}
use Rattle.record_history.specs.Lines.{with_comma}
use Rattle.record_history.proofs.texts.with_others.Given as goal

-- what is written so far, with the paths that are left, is all of them
abbrev pub invariant-loop-path : goal.invariant-loop-path
invariant-loop-path l = l.text.items ++ flat_map with_comma (map (λ p. p.now) (drop l.path-index l.others))
    ≡ l.first ++ flat_map with_comma (map (λ p. p.now) l.others)
