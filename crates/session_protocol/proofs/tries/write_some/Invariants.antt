use Rattle.std.proofs.Common.{◌≡◌, ◌+◌, ◌≤◌}
use Rattle.session_protocol.specs.Streams.{RisesBy, most_with}
use Rattle.session_protocol.proofs.tries.write_some.Given as goal

abbrev pub invariant-loop : goal.invariant-loop
invariant-loop g l = record {
  written : g.K.Sink.tells → g.K.Sink.written l.sink ≡ g.K.Sink.written l.initial.sink;
  in_a_row : RisesBy l.counter (g.K.Sink.troubles l.initial.sink).interruptions (g.K.Sink.troubles l.sink).interruptions;
  over : (g.K.Sink.troubles l.sink).interruptions ≤ (g.K.Sink.troubles l.initial.sink).interruptions + l.counter;
  most : (g.K.Sink.troubles l.sink).most_interruptions ≤ most_with (g.K.Sink.troubles l.initial.sink) l.counter;
  failures : (g.K.Sink.troubles l.sink).failures ≡ (g.K.Sink.troubles l.initial.sink).failures;
  all : (g.K.Sink.troubles l.initial.sink).all_interruptions ≤ (g.K.Sink.troubles l.sink).all_interruptions;
  rises : RisesBy l.counter (g.K.Sink.troubles l.initial.sink).all_interruptions (g.K.Sink.troubles l.sink).all_interruptions;
}
