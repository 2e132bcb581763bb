use Rattle.std.proofs.Common.{◌≡◌, arith, sym, ◌∙◌, get_or}
use Rattle.std.proofs.lemmas.Grind.{get_or_default_zero}
use Rattle.filing_verify.specs.Passes.{Costs}
use Rattle.filing_verify.proofs.Longest.{most, attained}
use Rattle.filing_verify.proofs.cost.longest.Goals as goal

pub returns : goal.returns
returns c =
    let begin : c.loop-place.place ≡ 0 = omega arith in
    let all : Costs c.args.image.now 0 c.loop-place.costs.items = rw (← begin) c.loop-place.invariant in
    let is : c.index.result.now ≡ get_or c.loop-place.costs.items 0 0 = c.index.ensures
    ∙ get_or_default_zero c.loop-place.costs.items 0 c.index.result.now (omega (arith, all.long, c.requires.some)) in
    let r = attained all c.requires.some in
    record {
      most = λ n q path lt. rw is (most all n q path lt);
      attained = (r.0, r.1, r.2, r.3, r.4 ∙ sym is);
    }
