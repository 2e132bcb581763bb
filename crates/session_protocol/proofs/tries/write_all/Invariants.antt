use Rattle.std.proofs.Common.{◌≡◌, ◌-◌, ◌≤◌, ◌++◌, take, length}
use Rattle.session_protocol.proofs.Troubles.{Outlasts}
use Rattle.session_protocol.proofs.tries.write_all.Given as goal

abbrev pub invariant-loop-at : goal.invariant-loop-at
invariant-loop-at g l = record {
  within : l.at ≤ length l.octets;
  written : g.K.Sink.tells → g.K.Sink.written l.sink ≡ g.K.Sink.written l.fn.sink ++ take l.at l.octets;
  troubles : Outlasts g.K.Sink.troubles l.fn.sink l.sink;
}

abbrev pub decreases-loop-at : goal.decreases-loop-at
decreases-loop-at g l = length l.octets - l.at
