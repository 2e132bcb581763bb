use Rattle.std.proofs.Common.{◌≡◌, not, map, filter, take}
use Rattle.class_plan.specs.Plans.{has}
use Rattle.tool_plans.proofs.dropped.dropped_paths.Given as goal

-- what is left out of the paths so far
abbrev pub invariant-loop-path : goal.invariant-loop-path
invariant-loop-path l = map (λ p. p.now) l.dropped.items
    ≡ filter (λ p. not (has l.new.rows p)) (map (λ r. r.0.now) (take l.path-index l.path-items))
