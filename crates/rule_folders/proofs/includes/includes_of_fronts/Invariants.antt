use Rattle.std.proofs.Common.{◌≡◌, map, take}
use Rattle.std.specs.List.{flat_map}
use Rattle.tool_findings.specs.Commands.{include_by, items_of, own_tokens}
use Rattle.rule_folders.specs.Includes.{include_of}
use Rattle.rule_folders.proofs.includes.includes_of_fronts.Given as goal

abbrev pub invariant-loop-front : goal.invariant-loop-front
invariant-loop-front l = map include_of l.includes.items ≡ flat_map (λ f. items_of (include_by (own_tokens l.tokens f))) (take l.front-index l.fronts)
