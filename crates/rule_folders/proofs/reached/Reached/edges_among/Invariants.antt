use Rattle.std.proofs.Common.{List, map, take}
use Rattle.std.specs.List.{Contains}
use Rattle.rule_folders.specs.Includes.{include_of}
use Rattle.tool_findings.specs.Commands.{Include}
use Rattle.rule_folders.specs.Reading.{Entry, Read, octets}
use Rattle.rule_folders.specs.Reached.{AreEdges, HasInclude}
use Rattle.rule_folders.specs.Steps.{Goes}
use Rattle.rule_folders.proofs.reached.Reached.edges_among.Given as goal

abbrev pub invariant-loop-included : goal.invariant-loop-included
invariant-loop-included g l =
    (reads : List Read)
    × AreEdges (g.S.Scripts.place l.fn.scripts) reads l.self (map include_of (take l.included-index l.includes)) l.edges.items
    × Goes g.S.Scripts.made g.S.Scripts.place l.fn.scripts l.scripts l.fn.self l.self
    (λ (s : Entry). (i : Include) → Contains (map include_of l.includes) i → HasInclude (octets s) i) reads
