use Rattle.std.proofs.Common.{◌+◌, ◌^◌, ◌<◌, length, sym, ap, ◌∙◌, arith, false}
use Rattle.sieve_meaning.specs.Matching.{items_of}
use Rattle.sieve_match.specs.Steps.{turn_view}
use Rattle.sieve_match.proofs.SearchLemmas.{Fresh-first, State-goes, State-star, State-stuck, State-bound, State-ends}
use Rattle.sieve_match.proofs.SearchLemmas.{State-least, Fresh-fails, Tried-fails, items-le, bound_fits}
use Rattle.sieve_match.proofs.TrialLemmas.{again_of, Exact-first, Exact-goes, Exact-star, Exact-stuck, Exact-ends, Exact-fails, Exact-fails_at_end}
use Rattle.sieve_match.proofs.wildcards.matches_counted.Goals as goal

pub overflow_add-count : goal.overflow_add-count
overflow_add-count c =
    let p : length c.args.pattern.now < 2 ^ 63 = omega arith in
    let v : length c.args.value.now < 2 ^ 63 = omega arith in
    let n = State-bound c.args.comparator (items_of c.args.pattern.now) c.args.value.now (items_of c.search.items.now)
    c.search.rest.now c.search.star c.search.count c.first_step-compared.result.1 c.search.invariant.state
    c.first_step-compared.ensures.count in
    let h = bound_fits (c.search.count + c.first_step-compared.result.1) (length (items_of c.args.pattern.now))
    (length c.args.value.now) n (omega (arith, items-le false c.args.pattern.now)) v in
    omega (arith, h)

pub returns-in-Ends-clause-count : goal.returns-in-Ends-clause-count
returns-in-Ends-clause-count c =
    State-bound c.args.comparator (items_of c.args.pattern.now) c.args.value.now (items_of c.search.items.now)
    c.search.rest.now c.search.star c.search.count c.first_step-compared.result.1 c.search.invariant.state
    c.first_step-compared.ensures.count

pub returns-in_default-split_first-clause-count : goal.returns-in_default-split_first-clause-count
returns-in_default-split_first-clause-count c =
    State-bound c.args.comparator (items_of c.args.pattern.now) c.args.value.now (items_of c.search.items.now)
    c.search.rest.now c.search.star c.search.count c.first_step-compared.result.1 c.search.invariant.state
    c.first_step-compared.ensures.count

pub search-preserved-in-Goes : goal.search-preserved-in-Goes
search-preserved-in-Goes c =
    let turn = sym c.first_step-compared.ensures.value ∙ ap turn_view c.in-Goes.is in
    record {
      state = State-goes c.args.comparator (items_of c.args.pattern.now) c.args.value.now (items_of c.search.items.now)
          (items_of c.in-Goes.after.now) c.search.rest.now c.in-Goes.following.now c.search.star c.search.count
          c.first_step-compared.result.1 c.search.invariant.state turn c.first_step-compared.ensures.count;
      exact = Exact-goes c.args.comparator (items_of c.args.pattern.now) c.args.value.now (again_of c.search.star)
          (items_of c.search.items.now) (items_of c.in-Goes.after.now) c.search.rest.now c.in-Goes.following.now
          c.search.count c.first_step-compared.result.1 c.search.invariant.exact turn
          c.first_step-compared.ensures.count;
    }

pub search-preserved-in-Star : goal.search-preserved-in-Star
search-preserved-in-Star c =
    let turn = sym c.first_step-compared.ensures.value ∙ ap turn_view c.in-Star.is in
    record {
      state = State-star c.args.comparator (items_of c.args.pattern.now) c.args.value.now (items_of c.search.items.now)
          (items_of c.in-Star.after.now) c.search.rest.now c.search.star c.search.count c.first_step-compared.result.1
          c.search.invariant.state turn c.first_step-compared.ensures.count;
      exact = Exact-star c.args.comparator (items_of c.args.pattern.now) c.args.value.now (again_of c.search.star)
          (items_of c.search.items.now) (items_of c.in-Star.after.now) c.search.rest.now c.search.count
          c.first_step-compared.result.1 c.search.invariant.exact turn c.first_step-compared.ensures.count;
    }

pub search-preserved : goal.search-preserved
search-preserved c =
    let turn = sym c.first_step-compared.ensures.value ∙ ap turn_view c.in-Stuck.is in
    let state = rw c.in-Some.is at c.search.invariant.state in
    let exact = rw c.in-Some.is at c.search.invariant.exact in
    record {
      state = State-stuck c.args.comparator (items_of c.args.pattern.now) c.args.value.now (items_of c.search.items.now)
          c.search.rest.now (items_of c.in-Some.after.now) c.in-Some.from.now c.in-Some-split_first.field-0-0.now
          c.in-Some-split_first.following.now c.search.count c.first_step-compared.result.1 state
          c.in-Some-split_first.ensures.cases.0 turn c.first_step-compared.ensures.count;
      exact = Exact-stuck c.args.comparator (items_of c.args.pattern.now) c.args.value.now (items_of c.search.items.now)
          c.search.rest.now (items_of c.in-Some.after.now) c.in-Some.from.now c.in-Some-split_first.field-0-0.now
          c.in-Some-split_first.following.now c.search.count c.first_step-compared.result.1 exact
          c.in-Some-split_first.ensures.cases.0 turn c.first_step-compared.ensures.count;
    }

pub returns-in-Ends-clause-test : goal.returns-in-Ends-clause-test
returns-in-Ends-clause-test c =
    State-ends c.args.comparator (items_of c.args.pattern.now) c.args.value.now (items_of c.search.items.now)
    c.search.rest.now c.search.star c.search.count c.search.invariant.state (sym c.first_step-compared.ensures.value
    ∙ ap turn_view c.in-Ends.is)

pub returns-in_default-clause-test : goal.returns-in_default-clause-test
returns-in_default-clause-test c =
    let h = rw c.in_default.is at c.search.invariant.state in
    Fresh-fails c.args.comparator (items_of c.args.pattern.now) c.args.value.now (items_of c.search.items.now)
    c.search.rest.now c.search.count h (sym c.first_step-compared.ensures.value ∙ ap turn_view c.in-Stuck.is)

pub returns-in_default-split_first-clause-test : goal.returns-in_default-split_first-clause-test
returns-in_default-split_first-clause-test c =
    let h = rw c.in-Some.is at c.search.invariant.state in
    Tried-fails c.args.comparator (items_of c.args.pattern.now) c.args.value.now (items_of c.search.items.now)
    c.search.rest.now (items_of c.in-Some.after.now) c.in-Some.from.now c.search.count h
    c.in_default-split_first.ensures.cases (sym c.first_step-compared.ensures.value ∙ ap turn_view c.in-Stuck.is)

pub returns-in-Ends-clause-least : goal.returns-in-Ends-clause-least
returns-in-Ends-clause-least c = λ _.
    State-least c.args.comparator (items_of c.args.pattern.now) c.args.value.now (items_of c.search.items.now)
    c.search.rest.now c.search.star c.search.count c.first_step-compared.result.1 c.search.invariant.state
    (sym c.first_step-compared.ensures.value ∙ ap turn_view c.in-Ends.is)

pub returns-in-Ends-clause-exact : goal.returns-in-Ends-clause-exact
returns-in-Ends-clause-exact c =
    Exact-ends c.args.comparator (items_of c.args.pattern.now) c.args.value.now (again_of c.search.star)
    (items_of c.search.items.now) c.search.rest.now c.search.count c.first_step-compared.result.1
    c.search.invariant.exact (sym c.first_step-compared.ensures.value
    ∙ ap turn_view c.in-Ends.is) c.first_step-compared.ensures.count

pub returns-in_default-clause-exact : goal.returns-in_default-clause-exact
returns-in_default-clause-exact c =
    let h = rw c.in_default.is at c.search.invariant.exact in
    Exact-fails c.args.comparator (items_of c.args.pattern.now) c.args.value.now (items_of c.search.items.now)
    c.search.rest.now c.search.count c.first_step-compared.result.1 h (sym c.first_step-compared.ensures.value
    ∙ ap turn_view c.in-Stuck.is) c.first_step-compared.ensures.count

pub returns-in_default-split_first-clause-exact : goal.returns-in_default-split_first-clause-exact
returns-in_default-split_first-clause-exact c =
    let h = rw c.in-Some.is at c.search.invariant.exact in
    Exact-fails_at_end c.args.comparator (items_of c.args.pattern.now) c.args.value.now (items_of c.search.items.now)
    c.search.rest.now (items_of c.in-Some.after.now) c.in-Some.from.now c.search.count
    c.first_step-compared.result.1 h c.in_default-split_first.ensures.cases (sym c.first_step-compared.ensures.value
    ∙ ap turn_view c.in-Stuck.is) c.first_step-compared.ensures.count

pub search-init : goal.search-init
search-init c = record {
  state = Fresh-first c.args.comparator (items_of c.args.pattern.now) c.args.value.now;
  exact = Exact-first c.args.comparator (items_of c.args.pattern.now) c.args.value.now;
}
