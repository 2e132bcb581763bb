use Rattle.std.proofs.Common.{arith}
use Rattle.memchr.proofs.lemmas.CriticalLemmas.{IsCutPlace-of}
use Rattle.sieve_match.specs.TwoWay.{Precedes}
use Rattle.sieve_match.specs.declared.two_way.Order.TheVariants.{Rising, Falling}
use Rattle.sieve_match.proofs.TwoWayLemmas.{Precedes-trans, Precedes-irrefl, Precedes-opposed}
use Rattle.sieve_match.proofs.two_way.Plan.new.Goals as goal

pub at-requires : goal.at-requires
at-requires c =
    let rising = c.greatest_suffix-rising.ensures in
    let falling = c.greatest_suffix-falling.ensures in
    let fits = falling.fits in
    let some = falling.some in
    IsCutPlace-of (Precedes Falling) (Precedes Rising) (Precedes-trans Falling) (Precedes-irrefl Falling) (Precedes-irrefl Rising)
    (λ a b p q. Precedes-opposed a b q p) _ _ _ _ (omega arith) falling.greatest rising.greatest (omega arith) _ falling

pub at-requires-else-falling-rising : goal.at-requires-else-falling-rising
at-requires-else-falling-rising c =
    let rising = c.greatest_suffix-rising.ensures in
    let falling = c.greatest_suffix-falling.ensures in
    let fits = rising.fits in
    let some = rising.some in
    IsCutPlace-of (Precedes Rising) (Precedes Falling) (Precedes-trans Rising) (Precedes-irrefl Rising) (Precedes-irrefl Falling)
    Precedes-opposed _ _ _ _ (omega arith) rising.greatest falling.greatest (omega arith) _ rising
