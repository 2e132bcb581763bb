use Rattle.std.proofs.Common.{◌≤◌, arith, length}
use Rattle.std.proofs.lemmas.Grind.{common_steps}
use Rattle.session_protocol.proofs.Skips.{passed_over, at_end}
use Rattle.session_protocol.proofs.Troubles.{outlasts_on}
use Rattle.session_protocol.proofs.payload.skip.Goals as goal

pub returns-then-count-eq0-clause-cut : goal.returns-then-count-eq0-clause-cut
returns-then-count-eq0-clause-cut g c = λ t e.
    let f = c.in_ok-count.ensures.end t in
    let end : _ → length (g.S.Source.left c.args.source.now) ≤ c.loop-got.got =
    at_end (g.S.Source.left c.args.source.now) _ c.loop-got.got (c.loop-got.invariant.rest t) in
    let over = c.in_ok-count.ensures.over t in
    (grind (arith, common_steps, f, end), grind (arith, common_steps, over))

pub loop-got-preserved : goal.loop-got-preserved
loop-got-preserved g c =
    let fits : c.in_ok-count.count ≤ length c.read_some.new.room = grind (arith, common_steps) in
    record {
      within = grind (arith, common_steps);
      enough = λ t.
          (passed_over _ _ _ c.read_some.new.room _ _ (c.loop-got.invariant.enough t) (c.loop-got.invariant.rest t)
          (c.in_ok-count.ensures.octets t) fits).0;
      rest = λ t. (passed_over _ _ _ c.read_some.new.room _ _ (c.loop-got.invariant.enough t)
          (c.loop-got.invariant.rest t) (c.in_ok-count.ensures.octets t) fits).1;
      ends = grind (arith, common_steps);
      troubles = outlasts_on g.S.Source.troubles _ _ _ c.loop-got.invariant.troubles c.in_ok-count.ensures.told.troubles;
    }
