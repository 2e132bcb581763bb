use Rattle.std.proofs.Common.{◌≡◌, ℕ, List, [], ◌∷◌, length, sym, subst, arith}
use Rattle.std.proofs.lemmas.Map.Iter.{rest_more, rest_all}
use Rattle.filing_gen.proofs.Pools.{IsPlaced, placed_first, placed_last, placed_inside, number_placed, once_in_all}
use Rattle.filing_gen.proofs.number_pool.by_place.Goals as goal

pub loop-number-init : goal.loop-number-init
loop-number-init c =
    let es = c.args.places.entries in
    let made = c.in_ok-numbers.numbers in
    let long : length made.items ≡ length es = omega (arith, c.in_ok-numbers.ensures.len, made.ok.0, c.len.ensures.len) in
    subst (λ (l : List (ℕ × ℕ)). IsPlaced es l made.items) (sym c.into_iter-number-iterator.ensures.into_iter_gives.0)
    (placed_first es made.items long)

pub index_mut-requires : goal.index_mut-requires
index_mut-requires c =
    let es = c.args.places.entries in
    let next : c.loop-number.number-iterator ≡ (c.in-Some.number, c.in-Some.place) ∷ c.next.new.self =
    rest_more (λ (p : ℕ × ℕ). p) c.loop-number.number-iterator c.next.new.self c.next.result (
      c.in-Some.number,
      c.in-Some.place,
    ) c.in-Some.is c.next.ensures.steps in
    let v = c.loop-number.numbers in
    let inside =
    placed_inside es c.next.new.self c.loop-number.numbers.items c.in-Some.number c.in-Some.place c.requires
    (subst (λ (l : List (ℕ × ℕ)). IsPlaced es l c.loop-number.numbers.items) next c.loop-number.invariant) in
    omega (arith, inside, v.ok.0)

pub loop-number-preserved : goal.loop-number-preserved
loop-number-preserved c =
    let es = c.args.places.entries in
    let next : c.loop-number.number-iterator ≡ (c.in-Some.number, c.in-Some.place) ∷ c.next.new.self =
    rest_more (λ (p : ℕ × ℕ). p) c.loop-number.number-iterator c.next.new.self c.next.result (
      c.in-Some.number,
      c.in-Some.place,
    ) c.in-Some.is c.next.ensures.steps in
    number_placed es c.next.new.self c.loop-number.numbers.items c.in-Some.number c.in-Some.place c.requires
    (subst (λ (l : List (ℕ × ℕ)). IsPlaced es l c.loop-number.numbers.items) next c.loop-number.invariant)

pub returns : goal.returns
returns c =
    let es = c.args.places.entries in
    let none : c.loop-number.number-iterator ≡ [] =
    rest_all (λ (p : ℕ × ℕ). p) c.loop-number.number-iterator c.next.new.self c.next.result c.in-None.is
    c.next.ensures.steps in
    let done = subst (λ (l : List (ℕ × ℕ)). IsPlaced es l c.loop-number.numbers.items) none c.loop-number.invariant in
    record {
      places = λ n b at. placed_last es c.loop-number.numbers.items done n b at;
      once =
          once_in_all es c.loop-number.numbers.items c.requires done;
      count = done.long;
    }
