use Rattle.std.proofs.Common.{◌≡◌, ◌+◌, ◌≤◌}
use Rattle.session_protocol.specs.Streams.{RisesBy, most_with}
use Rattle.session_protocol.proofs.tries.read_some.Given as goal

abbrev pub invariant-loop : goal.invariant-loop
invariant-loop g l = record {
  left : g.S.Source.tells → g.S.Source.left l.source ≡ g.S.Source.left l.initial.source;
  ends : g.S.Source.ends l.source ≡ g.S.Source.ends l.initial.source;
  in_a_row : RisesBy l.counter (g.S.Source.troubles l.initial.source).interruptions (g.S.Source.troubles l.source).interruptions;
  over : (g.S.Source.troubles l.source).interruptions ≤ (g.S.Source.troubles l.initial.source).interruptions + l.counter;
  most : (g.S.Source.troubles l.source).most_interruptions ≤ most_with (g.S.Source.troubles l.initial.source) l.counter;
  failures : (g.S.Source.troubles l.source).failures ≡ (g.S.Source.troubles l.initial.source).failures;
  all : (g.S.Source.troubles l.initial.source).all_interruptions ≤ (g.S.Source.troubles l.source).all_interruptions;
  rises : RisesBy l.counter (g.S.Source.troubles l.initial.source).all_interruptions (g.S.Source.troubles l.source).all_interruptions;
}
