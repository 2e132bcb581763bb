use Rattle.std.proofs.Common.{◌≡◌, ◌-◌, ◌≤◌, ◌++◌}
use Rattle.std.specs.Prelude.{vec_len, vec_capacity}
use Rattle.session_protocol.proofs.Troubles.{Outlasts}
use Rattle.session_protocol.proofs.payload.fill.Given as goal

abbrev pub invariant-loop-room : goal.invariant-loop-room
invariant-loop-room g l = record {
  within : vec_len l.octets ≤ l.size;
  room : l.size ≤ vec_capacity l.octets;
  rest : g.S.Source.tells → g.S.Source.left l.fn.source ≡ l.octets.items ++ g.S.Source.left l.source;
  ends : g.S.Source.ends l.fn.source ≤ g.S.Source.ends l.source;
  troubles : Outlasts g.S.Source.troubles l.fn.source l.source;
}

abbrev pub decreases-loop-room : goal.decreases-loop-room
decreases-loop-room g l = l.size - vec_len l.octets
