use Rattle.std.proofs.Common.{[], ◌≡◌, ◌-◌, ◌≤◌}
use Rattle.desk_commands.specs.Calls.{Calls}
use Rattle.session_protocol.specs.Session.{session_of, left_by}
use Rattle.session_protocol.proofs.Served.{Doing}
use Rattle.session_protocol.proofs.Troubles.{Outlasts}
use Rattle.session_protocol.proofs.session.serve.Given as goal

abbrev pub invariant-loop : goal.invariant-loop
invariant-loop g l = record {
  doing : Doing (Calls g.R.Registry.keeper) g.S.Source.tells g.K.Sink.tells l.counter
      (session_of 1000000 (g.S.Source.left l.fn.source)) l.fn.registry
      (g.K.Sink.written l.fn.sink) (g.S.Source.left l.source) l.registry (g.K.Sink.written l.sink);
  empty : l.buffer ≡ [];
  unread : g.S.Source.tells → left_by 1000000 (g.S.Source.left l.fn.source) ≡ left_by (1000000 - l.counter) (g.S.Source.left l.source);
  ends : g.S.Source.ends l.fn.source ≤ g.S.Source.ends l.source;
  reads : Outlasts g.S.Source.troubles l.fn.source l.source;
  writes : Outlasts g.K.Sink.troubles l.fn.sink l.sink;
}
