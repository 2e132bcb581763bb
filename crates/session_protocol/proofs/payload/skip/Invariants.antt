use Rattle.std.proofs.Common.{◌≡◌, ◌-◌, ◌≤◌, length, drop}
use Rattle.session_protocol.proofs.Troubles.{Outlasts}
use Rattle.session_protocol.proofs.payload.skip.Given as goal

abbrev pub invariant-loop-got : goal.invariant-loop-got
invariant-loop-got g l = record {
  within : l.got ≤ l.size;
  enough : g.S.Source.tells → l.got ≤ length (g.S.Source.left l.fn.source);
  rest : g.S.Source.tells → g.S.Source.left l.source ≡ drop l.got (g.S.Source.left l.fn.source);
  ends : g.S.Source.ends l.fn.source ≤ g.S.Source.ends l.source;
  troubles : Outlasts g.S.Source.troubles l.fn.source l.source;
}

abbrev pub decreases-loop-got : goal.decreases-loop-got
decreases-loop-got g l = l.size - l.got
