use Rattle.std.proofs.Common.{sym, subst}
use Rattle.record_noted.specs.declared.opening.Opened.{Opened}
use Rattle.cli_history.specs.Openings.{OpensFor}
use Rattle.cli_history.proofs.OpeningLemmas.{opens_ready}
use Rattle.cli_history.proofs.opening.open_for_change.Goals as goal

pub returns-in-Ok : goal.returns-in-Ok
returns-in-Ok g c = λ store opens.
    let seals = c.open_of.result.seals in
    subst (λ (opened : Opened _). OpensFor g.S.Store c.args.purpose c.args.author.now store seals opened) (sym c.open_of.ensures.noted)
    (opens_ready g.S.Store c.args.purpose c.args.author.now store c.args.noted c.in-Ok.prepared seals opens c.in-Ok.ensures.ready
    c.open_of.ensures.seals)
