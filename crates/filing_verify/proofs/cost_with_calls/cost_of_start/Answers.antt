use Rattle.std.proofs.Common.{◌≡◌, ℕ, ◌<◌, length, arith, ◌∙◌, get_or, rules}
use Rattle.std.proofs.lemmas.Grind.{common_steps, get_or_default_zero}
use Rattle.filing_verify.specs.Passes.{Costing}
use Rattle.filing_verify.proofs.Spending.{begins, there, is}
use Rattle.filing_verify.proofs.cost_with_calls.cost_of_start.Goals as goal

pub loop-place-init : goal.loop-place-init
loop-place-init c =
    let p = c.args.image.now in
    let costs = c.resize.new.self.items in
    let many : c.place_count-place.result ≡ length p.code = c.place_count-place.ensures.value in
    let long : length costs ≡ length p.code =
    first_of (
      omega (arith, c.in_ok-resize.ensures.len, c.resize.new.self.ok, c.place_count.ensures.value),
      grind (arith, common_steps),
    ) in
    let zero : (k : ℕ) → k < length p.code → get_or costs k 0 ≡ 0 = λ k lt.
    c.in_ok-resize.ensures.by_index.1 k 0 (search rules) (omega (arith, c.new-costs.ensures.len)) (omega (
      arith,
      c.place_count.ensures.value,
    )) in
    begins p costs c.place_count-place.result many long zero

pub returns : goal.returns
returns c =
    let begin : c.loop-place.place ≡ 0 = omega arith in
    let all : Costing c.args.image.now 0 c.loop-place.costs.items = rw (← begin) c.loop-place.invariant in
    let at : c.index.result.now ≡ get_or c.loop-place.costs.items 0 0 = c.index.ensures
    ∙ get_or_default_zero c.loop-place.costs.items 0 c.index.result.now (omega (arith, all.long, c.requires.some)) in
    record {
      there = there all;
      is = λ cost are. at ∙ is all c.requires.some cost are;
    }
