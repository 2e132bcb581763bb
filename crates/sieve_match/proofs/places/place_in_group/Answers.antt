use Rattle.std.proofs.Common.{◌≡◌, ◌+◌, ◌-◌, ◌≤◌, ◌∷◌, length, take, drop, ap, ◌∙◌, arith}
use Rattle.std.proofs.lemmas.List.{length-drop}
use Rattle.sieve_meaning.specs.Matching.{items_of}
use Rattle.sieve_match.proofs.GroupLemmas.{read_on, flags_next, flags_none}
use Rattle.sieve_match.proofs.PieceLemmas.{drop_next}
use Rattle.sieve_match.proofs.places.place_in_group.Goals as goal

pub returns-in_err-item : goal.returns-in_err-item
returns-in_err-item c =
    let all = items_of c.args.pattern.now in
    let gone : length (drop c.items.offset all) ≡ 0 = ap length (c.items.invariant.left ∙ c.in_err-item.ensures) in
    absurd (omega (arith, gone, length-drop c.items.offset all))

pub returns-then-not-keep_fitting : goal.returns-then-not-keep_fitting
returns-then-not-keep_fitting c =
    let all = items_of c.args.pattern.now in
    let n = c.items.offset in
    let t = c.args.text.now in
    let after = items_of c.in_ok-item.after.now in
    let e : drop n all ≡ c.in_ok-item.item ∷ after = cc (c.items.invariant.left, c.in_ok-item.ensures) in
    let same : length c.items.fits ≡ length c.args.fits.now = c.items.invariant.long in
    let long : length c.keep_fitting.new.fits ≡ length c.items.fits = omega arith in
    let within : length c.items.fits + n ≤ length t = omega arith in
    λ k low high. flags_none c.args.comparator all n c.in_ok-item.item after e t c.items.fits c.keep_fitting.new.fits long within
    c.items.invariant.flags (take (length t - n) (drop n t)) (read_on t n (length c.items.fits)) c.keep_fitting.ensures.kept c.args.count
    (omega arith) (c.keep_fitting.ensures.none c.if-not-keep_fitting.true) k low (omega (arith, high, same))

pub items-preserved : goal.items-preserved
items-preserved c =
    let all = items_of c.args.pattern.now in
    let n = c.items.offset in
    let t = c.args.text.now in
    let after = items_of c.in_ok-item.after.now in
    let e : drop n all ≡ c.in_ok-item.item ∷ after = cc (c.items.invariant.left, c.in_ok-item.ensures) in
    let same : length c.items.fits ≡ length c.args.fits.now = c.items.invariant.long in
    let long : length c.keep_fitting.new.fits ≡ length c.items.fits = omega arith in
    let within : length c.items.fits + n ≤ length t = omega arith in
    record {
      long = omega (arith, same, long);
      done = omega arith;
      left = drop_next all n c.in_ok-item.item after e;
      flags = flags_next c.args.comparator all n c.in_ok-item.item after e t c.items.fits c.keep_fitting.new.fits long within
          c.items.invariant.flags (take (length t - n) (drop n t)) (read_on t n (length c.items.fits)) c.keep_fitting.ensures.kept;
    }
