use Rattle.std.proofs.Common.{◌≡◌, ◌-◌, ◌≤◌, [], length}
use Rattle.session_protocol.proofs.FirstLine.{line_from}
use Rattle.session_protocol.proofs.Troubles.{Outlasts}
use Rattle.session_protocol.proofs.lines.read_line.Given as goal

abbrev pub invariant-loop : goal.invariant-loop
invariant-loop g l = record {
  count : length l.line ≡ l.counter;
  rest : g.S.Source.tells → line_from 512 [] (g.S.Source.left l.fn.source) ≡ line_from (512 - l.counter) l.line (g.S.Source.left l.source);
  ends : g.S.Source.ends l.fn.source ≤ g.S.Source.ends l.source;
  troubles : Outlasts g.S.Source.troubles l.fn.source l.source;
}
