use Rattle.std.proofs.Common.{take}
use Rattle.sieve_match.proofs.PieceLemmas.{piece_of_key}
use Rattle.sieve_match.proofs.places.first_place.Goals as goal

pub returns-in-Plain : goal.returns-in-Plain
returns-in-Plain c =
    piece_of_key c.args.comparator (take c.args.piece.now.count c.args.pattern.now) c.args.pattern.now c.args.piece.now.count
    c.args.text.now c.find.result (c.requires.plain c.in-Plain.is).1 c.find.ensures
