use Rattle.std.proofs.Common.{refl, arith}
use Rattle.std.proofs.lemmas.Bool.{false≢true}
use Rattle.sieve_meaning.specs.Matching.{items_of}
use Rattle.sieve_match.proofs.PieceLemmas.{first_to, first_from, first_none}
use Rattle.sieve_match.proofs.places.fits_front.Goals as goal

pub returns-in_default-split_first : goal.returns-in_default-split_first
returns-in_default-split_first c = (
  λ t. absurd (false≢true t),
  λ f. absurd (first_none c.args.comparator c.items.left (items_of c.items.items.now) (items_of c.in-Some.after.now) c.in-Some.item
      c.items.rest.now (omega arith) c.in-Some.ensures c.in_default-split_first.ensures.cases (c.items.invariant.0 f)),
)

pub returns-then-not-fits_item : goal.returns-then-not-fits_item
returns-then-not-fits_item c = (
  λ t. absurd (false≢true t),
  λ f.
      let r = first_to c.args.comparator c.items.left (omega arith) (items_of c.items.items.now) (items_of c.in-Some.after.now)
      c.in-Some.item c.in-Some.ensures c.items.rest.now c.in-Some-split_first.following.now c.in-Some-split_first.field-0-0.now
      c.in-Some-split_first.ensures.cases.0 (c.items.invariant.0 f) in
      absurd (false≢true (c.if-not-fits_item.ensures.1 r.0)),
)

pub items-preserved : goal.items-preserved
items-preserved c = (
  λ f.
      let r = first_to c.args.comparator c.items.left (omega arith) (items_of c.items.items.now) (items_of c.in-Some.after.now)
      c.in-Some.item c.in-Some.ensures c.items.rest.now c.in-Some-split_first.following.now c.in-Some-split_first.field-0-0.now
      c.in-Some-split_first.ensures.cases.0 (c.items.invariant.0 f) in
      r.1,
  λ g. c.items.invariant.1 (first_from c.args.comparator c.items.left (omega arith) (items_of c.items.items.now) (items_of c.in-Some.after.now)
      c.in-Some.item c.in-Some.ensures c.items.rest.now c.in-Some-split_first.following.now c.in-Some-split_first.field-0-0.now
      c.in-Some-split_first.ensures.cases.0 (c.if-not-fits_item.ensures.0 refl) g),
)
