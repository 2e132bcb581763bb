use Rattle.cli_page.proofs.HoldLemmas.{count_step, count_fits, count_end}
use Rattle.cli_page.proofs.holds.count_of.Goals as goal

pub loop-stretch-preserved : goal.loop-stretch-preserved
loop-stretch-preserved c = record {
  same = count_step c.args.stretches.now c.loop-stretch.stretch-index c.loop-stretch.count c.from.result _ _ _ c.loop-stretch-test.true c.from.ensures
      c.saturating_add-count.ensures c.loop-stretch.invariant.same;
  fits = count_fits _ _ c.saturating_add-count.ensures;
}

pub returns : goal.returns
returns c =
    count_end c.args.stretches.now c.loop-stretch.stretch-index c.loop-stretch.count _ c.loop-stretch-test.false c.loop-stretch.invariant.fits
    c.loop-stretch.invariant.same
