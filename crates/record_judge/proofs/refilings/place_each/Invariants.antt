use Rattle.std.proofs.Common.{◌≡◌, ◌++◌, map, take, drop}
use Rattle.record_judge.specs.Refilings.{placed}
use Rattle.record_judge.specs.Sealed.{record_view}
use Rattle.record_judge.proofs.refilings.place_each.Given as goal

-- the records so far are in the class, where they have the number
abbrev pub invariant-loop-place : goal.invariant-loop-place
invariant-loop-place l = map record_view l.rows
    ≡ map (placed l.number l.path) (map record_view (take l.place l.initial.rows)) ++ map record_view (drop l.place l.initial.rows)
