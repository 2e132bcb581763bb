use Rattle.std.proofs.Common.{◌≡◌, Bool, length, take, arith}
use Rattle.std.proofs.lemmas.List.{length-take, length-take-le, length-replicate}
use Rattle.sieve_meaning.specs.Matching.{items_of}
use Rattle.sieve_match.proofs.GroupLemmas.{ends_nowhere}
use Rattle.sieve_match.proofs.places.place_by_groups.Goals as goal

pub returns-then-text-count : goal.returns-then-text-count
returns-then-text-count c =
    let is = take c.args.count (items_of c.args.pattern.now) in
    let long : length is ≡ c.args.count = length-take-le c.args.count (items_of c.args.pattern.now) c.requires in
    ends_nowhere c.args.comparator is c.args.text.now 0 (omega arith) (λ k low high. absurd (omega arith))

pub returns-then-near-places : goal.returns-then-near-places
returns-then-near-places c =
    let is = take c.args.count (items_of c.args.pattern.now) in
    let long : length is ≡ c.args.count = length-take-le c.args.count (items_of c.args.pattern.now) c.requires in
    ends_nowhere c.args.comparator is c.args.text.now c.min-near.result (omega arith)
    (λ k low high. c.in_default.ensures k low (omega (arith, high, length-take {A = Bool}, length-replicate {A = Bool})))
