use Rattle.std.proofs.Common.{◌≡◌, ℕ, map, length, take, refl, subst, arith}
use Rattle.sieve_meaning.specs.declared.matching.Item.TheVariants.{Octet}
use Rattle.sieve_meaning.specs.Matching.{items_of}
use Rattle.sieve_match.proofs.PieceLemmas.{piece_of_key}
use Rattle.sieve_match.proofs.places.place_of_key.Goals as goal

pub returns-then-copy_octets : goal.returns-then-copy_octets
returns-then-copy_octets c =
    let key = c.copy_octets.new.key in
    let size : length key ≡ length c.args.key.now = omega arith in
    piece_of_key c.args.comparator key c.args.pattern.now (length c.args.key.now) c.args.text.now c.find.result
    (subst (λ (m : ℕ). take m (items_of c.args.pattern.now) ≡ map Octet key) size (c.if-copy_octets.ensures refl)) c.find.ensures
