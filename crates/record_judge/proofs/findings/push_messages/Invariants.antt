use Rattle.std.proofs.Common.{◌≡◌, ◌++◌, map, take}
use Rattle.record_history.specs.Views.{deed_view}
use Rattle.record_judge.specs.Findings.{found_message}
use Rattle.record_judge.proofs.findings.push_messages.Given as goal

abbrev pub invariant-loop-message : goal.invariant-loop-message
invariant-loop-message l = map deed_view l.deeds.items ≡ map deed_view l.initial.deeds.items ++ map found_message (take l.message-index l.messages)
