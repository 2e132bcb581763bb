use Rattle.std.proofs.Common.{arith}
use Rattle.std.proofs.lemmas.Bool.{false_from_ne_true}
use Rattle.sieve_match.proofs.pieces.plain_length.Goals as goal

pub returns-in-Some-clause-plain : goal.returns-in-Some-clause-plain
returns-in-Some-clause-plain c = λ k l. false_from_ne_true _ (c.in-Some.ensures.0.before k (omega arith) l)

pub returns-in-None-clause-plain : goal.returns-in-None-clause-plain
returns-in-None-clause-plain c = λ k l. false_from_ne_true _ (c.in-None.ensures k (omega arith) l)
