use Rattle.std.proofs.Common.{sym, ◌∙◌}
use Rattle.filing_verify.proofs.Tables.{takes_both}
use Rattle.filing_verify.proofs.shaping.offer_successors.Goals as goal

pub returns-else-not-offer-clause-taken : goal.returns-else-not-offer-clause-taken
returns-else-not-offer-clause-taken c = λ t.
    takes_both c.args.image.now c.args.operation c.args.place (sym c.target.ensures ∙ c.in-Some.is)
    (c.offer.ensures.taken c.if-not-offer.false) (c.offer_next-in-Some.ensures.taken t)
