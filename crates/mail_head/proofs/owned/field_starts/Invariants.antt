use Rattle.std.proofs.Common.{length, ◌≤◌}
use Rattle.std.specs.Vec.{vec_capacity}
use Rattle.mail_head.specs.Fields.{fields_of}
use Rattle.mail_head.proofs.FoundLemmas.{Started}
use Rattle.mail_head.proofs.owned.field_starts.Given as goal

abbrev pub invariant-loop-found : goal.invariant-loop-found
invariant-loop-found l = record {
  started : Started l.octets l.rest l.starts.items;
  room : length (fields_of l.octets) ≤ vec_capacity l.starts;
}

abbrev pub decreases-loop-found : goal.decreases-loop-found
decreases-loop-found l = length l.rest
