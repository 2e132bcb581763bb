use Rattle.std.proofs.Common.{ℕ, ◌+◌, ◌-◌, ◌≤◌, Option, length, refl, sym, subst, arith}
use Rattle.std.proofs.lemmas.Bool.{false≢true}
use Rattle.memchr.specs.Find.{IsFirst}
use Rattle.memchr.proofs.lemmas.FindLemmas.{Nowhere-then}
use Rattle.sieve_match.specs.TwoWay.{folded_octet, StandsAt}
use Rattle.sieve_match.proofs.TwoWayLemmas.{after_right, found, after_left, kept_fits, kept_below, stands_nowhere}
use Rattle.sieve_match.proofs.two_way.Plan.find.Goals as goal

pub returns-in_err-at : goal.returns-in_err-at
returns-in_err-at c =
    subst (λ (r : Option ℕ). IsFirst (StandsAt c.args.value.now c.args.key.now) 0 (length c.args.value.now + 1) r)
    (sym c.from_residual.ensures)
    (stands_nowhere c.args.key.now c.args.value.now (length c.args.value.now + 1 - length c.args.key.now)
    (Nowhere-then c.places.invariant.1 c.in_err-at.ensures.next) (omega (arith, c.requires.some, c.places-test.true)))

pub places-preserved-then-end-key : goal.places-preserved-then-end-key
places-preserved-then-end-key c =
    let old = c.places.invariant in
    let e = c.fits_to-end.ensures in
    let next = c.in_ok-at.ensures.next in (
      omega (arith, next.1, c.if-end-key.true, c.requires.plan.below),
      after_right c.args.key.now c.args.value.now c.args.self.now c.requires.plan c.requires.some c.places.at
          c.in_ok-at.at c.places.known c.max.result c.fits_to-end.result
          old.1 old.2 old.3 next c.in_ok-at.ensures.stays c.max.ensures e.low e.high e.same c.if-end-key.true (e.differs c.if-end-key.true),
      c.requires.some,
      λ k l. absurd (omega arith),
    )

pub returns-then-fits_between : goal.returns-then-fits_between
returns-then-fits_between c =
    let old = c.places.invariant in
    let e = c.fits_to-end.ensures in
    let next = c.in_ok-at.ensures.next in
    let full : length c.args.key.now ≤ c.fits_to-end.result = omega (arith, c.if-end-key.false) in
    found c.args.key.now c.args.value.now c.args.self.now c.requires.plan c.requires.some c.places.at
    c.in_ok-at.at c.places.known c.max.result c.fits_to-end.result
    old.1 old.2 old.3 next c.in_ok-at.ensures.stays c.max.ensures e.low e.high e.same full (c.if-fits_between.ensures.0 refl)

pub places-preserved : goal.places-preserved
places-preserved c =
    let old = c.places.invariant in
    let e = c.fits_to-end.ensures in
    let next = c.in_ok-at.ensures.next in
    let full : length c.args.key.now ≤ c.fits_to-end.result = omega (arith, c.if-end-key.false) in (
      omega (arith, next.1, c.requires.plan.fits),
      after_left c.args.key.now c.args.value.now c.args.self.now c.requires.plan c.requires.some c.places.at
          c.in_ok-at.at c.places.known c.max.result c.fits_to-end.result
          old.1 old.2 old.3 next c.in_ok-at.ensures.stays c.max.ensures e.low e.high e.same full
          (λ all. false≢true (c.if-fits_between.ensures.1 all)),
      kept_below (folded_octet c.args.key.now) (length c.args.key.now) c.args.self.now c.requires.plan c.requires.some,
      kept_fits c.args.key.now c.args.value.now c.args.self.now c.requires.plan c.requires.some c.places.at
          c.in_ok-at.at c.places.known c.max.result c.fits_to-end.result
          old.1 old.2 old.3 next c.in_ok-at.ensures.stays c.max.ensures e.low e.high e.same full,
    )

pub returns : goal.returns
returns c = stands_nowhere c.args.key.now c.args.value.now c.places.at c.places.invariant.1 c.places-test.false
