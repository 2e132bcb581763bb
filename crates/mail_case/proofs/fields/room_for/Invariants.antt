use Rattle.std.proofs.Common.{◌≡◌, ◌+◌, ◌≤◌, length}
use Rattle.mail_head.specs.Fields.{fields_of}
use Rattle.mail_case.proofs.fields.room_for.Given as goal

abbrev pub invariant-loop-found : goal.invariant-loop-found
invariant-loop-found l = record {
  fields : l.room.fields + length (fields_of l.rest) ≡ length (fields_of l.text);
  octets : l.room.octets + length l.rest ≤ length l.text;
  few : l.room.fields + length l.rest ≤ length l.text;
}

abbrev pub decreases-loop-found : goal.decreases-loop-found
decreases-loop-found l = length l.rest
