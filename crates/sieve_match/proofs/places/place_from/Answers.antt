use Rattle.std.proofs.Common.{◌≡◌, ◌-◌, length, take, drop, arith}
use Rattle.std.proofs.lemmas.List.{take_rest, length-take-le}
use Rattle.sieve_meaning.specs.Matching.{items_of}
use Rattle.sieve_match.proofs.GroupLemmas.{group_found, group_nowhere, ends_nowhere}
use Rattle.sieve_match.proofs.places.place_from.Goals as goal

pub returns-in-Some : goal.returns-in-Some
returns-in-Some c =
    let t = c.args.text.now in
    let at = c.groups.at in
    let m = c.min-places.result in
    let size : length (take m c.groups.fits) ≡ m = length-take-le m c.groups.fits (omega arith) in
    group_found c.args.comparator (take c.args.count (items_of c.args.pattern.now)) t at c.groups.invariant.passed
    (take (length t - at) (drop at t)) (take_rest t at) m (length (take m c.groups.fits)) size c.in-Some.place (omega arith) c.in-Some.ensures

pub groups-preserved : goal.groups-preserved
groups-preserved c =
    let t = c.args.text.now in
    let at = c.groups.at in
    let m = c.min-places.result in
    let size : length (take m c.groups.fits) ≡ m = length-take-le m c.groups.fits (omega arith) in
    record {
      within = omega arith;
      passed = group_nowhere c.args.comparator (take c.args.count (items_of c.args.pattern.now)) t at c.groups.invariant.passed
          (take (length t - at) (drop at t)) (take_rest t at) m (length (take m c.groups.fits)) size c.in_default.ensures;
    }

pub returns : goal.returns
returns c =
    let is = take c.args.count (items_of c.args.pattern.now) in
    let long : length is ≡ c.args.count = length-take-le c.args.count (items_of c.args.pattern.now) c.requires.items in
    ends_nowhere c.args.comparator is c.args.text.now c.groups.at (omega arith) c.groups.invariant.passed
