use Rattle.std.proofs.Common.{◌≡◌, ◌+◌, map, take, string_bytes}
use Rattle.mail_intake.specs.Fates.{after_all}
use Rattle.mail_intake.specs.Intakes.{Passes}
use Rattle.mail_intake.specs.Telling.{memory_view}
use Rattle.mail_intake.proofs.intake.take_each.Given as goal

abbrev pub invariant-loop-name : goal.invariant-loop-name
invariant-loop-name g l = record {
  passes : Passes g.M.Mailroom.made g.M.Mailroom.has (memory_view l.memory) l.day l.fn.room l.room
      (map string_bytes (take l.name-index l.names)) after_all l.tally;
  sum : l.tally.taken + l.tally.unfit + l.tally.given_up ≡ l.name-index;
}
