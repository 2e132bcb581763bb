use Rattle.std.proofs.Common.{◌≡◌, ◌++◌, map, take}
use Rattle.std.specs.List.{flat_map}
use Rattle.mail_intake.specs.Telling.{entry, told_view}
use Rattle.mail_intake.proofs.memory.push_entries.Given as goal

abbrev pub invariant-loop-told : goal.invariant-loop-told
invariant-loop-told l =
    l.octets.items ≡ l.fn.octets.items ++ flat_map entry (map told_view (take l.told-index l.fn.told))
