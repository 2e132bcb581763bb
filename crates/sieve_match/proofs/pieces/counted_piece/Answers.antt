use Rattle.std.proofs.Common.{◌≡◌, ◌^◌, ◌<◌, false, ◌∷◌, length, drop, arith}
use Rattle.sieve_meaning.specs.declared.matching.Item.TheVariants.{Octet, One}
use Rattle.sieve_meaning.specs.Matching.{items_of}
use Rattle.sieve_match.proofs.PieceLemmas.{item_below, drop_next, starless_next}
use Rattle.sieve_match.proofs.SearchLemmas.{items-le}
use Rattle.sieve_match.proofs.pieces.counted_piece.Goals as goal

pub overflow_add-count : goal.overflow_add-count
overflow_add-count c =
    let all = items_of c.args.pattern.now in
    let after = items_of c.in-Some-One-default.after.now in
    let e : drop c.items.count all ≡ One ∷ after = cc (c.items.invariant.left, c.in-Some-One-default.ensures) in
    let p : length c.args.pattern.now < 2 ^ 63 = omega arith in
    omega (arith, item_below all c.items.count One after e, items-le false c.args.pattern.now)

pub items-preserved-in-Some-One-default : goal.items-preserved-in-Some-One-default
items-preserved-in-Some-One-default c =
    let all = items_of c.args.pattern.now in
    let after = items_of c.in-Some-One-default.after.now in
    let e : drop c.items.count all ≡ One ∷ after = cc (c.items.invariant.left, c.in-Some-One-default.ensures) in
    record {
      left = drop_next all c.items.count One after e;
      within = omega (arith, item_below all c.items.count One after e);
      starless = starless_next all c.items.count One after e c.items.invariant.starless tt;
      shape = λ s. cc;
    }

pub overflow_add-count-in-Some-Octet-default : goal.overflow_add-count-in-Some-Octet-default
overflow_add-count-in-Some-Octet-default c =
    let all = items_of c.args.pattern.now in
    let after = items_of c.in-Some-Octet-default.after.now in
    let e : drop c.items.count all ≡ Octet c.in-Some-Octet-default.field-0-0-0 ∷ after =
    cc (c.items.invariant.left, c.in-Some-Octet-default.ensures) in
    let p : length c.args.pattern.now < 2 ^ 63 = omega arith in
    omega (arith, item_below all c.items.count (Octet c.in-Some-Octet-default.field-0-0-0) after e, items-le false c.args.pattern.now)

pub items-preserved : goal.items-preserved
items-preserved c =
    let all = items_of c.args.pattern.now in
    let item = Octet c.in-Some-Octet-default.field-0-0-0 in
    let after = items_of c.in-Some-Octet-default.after.now in
    let e : drop c.items.count all ≡ item ∷ after = cc (c.items.invariant.left, c.in-Some-Octet-default.ensures) in
    record {
      left = drop_next all c.items.count item after e;
      within = omega (arith, item_below all c.items.count item after e);
      starless = starless_next all c.items.count item after e c.items.invariant.starless tt;
      shape = c.items.invariant.shape;
    }
