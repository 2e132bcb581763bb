use Rattle.std.proofs.Common.{◌≡◌, map, take}
use Rattle.record_reads.specs.Events.{event_of}
use Rattle.record_noted.specs.Histories.{MovesOn, rows_from}
use Rattle.record_noted.proofs.rows.rows_of_lines.Given as goal

abbrev pub invariant-loop-line : goal.invariant-loop-line
invariant-loop-line l =
    let ls = map (λ v. v.items) (take l.line-index l.lines) in
    (map event_of l.rows.items ≡ rows_from l.first l.before ls) × MovesOn l.first l.before ls l.next l.mark.items
