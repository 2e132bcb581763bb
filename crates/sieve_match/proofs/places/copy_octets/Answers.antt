use Rattle.std.proofs.Common.{◌≡◌, ◌<◌, ◌∷◌, length, drop, refl, arith}
use Rattle.sieve_meaning.specs.declared.matching.Item.TheVariants.{Octet}
use Rattle.sieve_meaning.specs.Matching.{items_of}
use Rattle.sieve_match.proofs.PieceLemmas.{drop_next, copied_next}
use Rattle.sieve_match.proofs.places.copy_octets.Goals as goal

pub loop-octet-preserved : goal.loop-octet-preserved
loop-octet-preserved c =
    let all = items_of c.args.pattern.now in
    let i = c.loop-octet.octet-index in
    let item = Octet c.in-Some-Octet-default.wanted in
    let after = items_of c.in-Some-Octet-default.after.now in
    let e : drop i all ≡ item ∷ after = cc (c.loop-octet.invariant.left, c.in-Some-Octet-default.ensures) in
    let inside : i < length c.loop-octet.key = omega arith in
    record {
      copied = copied_next all i item after e c.loop-octet.key c.in-Some-Octet-default.wanted refl inside c.loop-octet.invariant.copied;
      left = drop_next all i item after e;
    }
