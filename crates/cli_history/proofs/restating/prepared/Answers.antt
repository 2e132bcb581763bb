use Rattle.std.proofs.Common.{◌∙◌, sym}
use Rattle.cli_history.proofs.OpeningLemmas.{is_ready}
use Rattle.cli_history.proofs.restating.prepared.Goals as goal

pub returns-clause-ready : goal.returns-clause-ready
returns-clause-ready g c =
    is_ready g.S.Store c.args.purpose c.args.author.now c.args.noted c.look_at.new.noted c.in-Ok.sight c.in-Ok-prepared_with.ready
    c.in-Ok.ensures.sight c.in-Ok-prepared_with.ensures (sym c.is_refused.ensures ∙ c.if-is_refused.false)
