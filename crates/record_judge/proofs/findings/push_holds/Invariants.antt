use Rattle.std.proofs.Common.{◌≡◌, ◌++◌, map, take}
use Rattle.record_history.specs.Views.{deed_view}
use Rattle.record_judge.specs.Findings.{found_hold}
use Rattle.record_judge.proofs.findings.push_holds.Given as goal

abbrev pub invariant-loop-hold : goal.invariant-loop-hold
invariant-loop-hold l = map deed_view l.deeds.items ≡ map deed_view l.initial.deeds.items ++ map found_hold (take l.hold-index l.holds)
