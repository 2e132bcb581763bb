use Rattle.std.proofs.Common.{◌≡◌, ◌∙◌, false, rules, sym, subst}
use Rattle.std.proofs.lemmas.Bool.{not-true}
use Rattle.record_noted.specs.Openings.{Opens}
use Rattle.record_noted.specs.declared.opening.Opened.{Opened}
use Rattle.cli_history.proofs.OpeningLemmas.{opens_unchanged}
use Rattle.cli_history.proofs.opening.open_for.Goals as goal

pub returns-then-not-changes : goal.returns-then-not-changes
returns-then-not-changes g c =
    let none : c.changes.result ≡ false = search (rules, not-true) in
    opens_unchanged g.S.Store c.args.purpose c.args.author.now c.args.archive c.none-seals.result c.in-Ok.opened c.in-Ok.ensures.ok
    (sym c.changes.ensures ∙ none)

pub returns-in-Noted : goal.returns-in-Noted
returns-in-Noted g c =
    c.open_for_change.ensures c.args.archive (subst (λ (opened : Opened _). Opens g.S.Store c.args.archive opened) c.in-Noted.is c.in-Ok.ensures.ok)

pub returns-in-Plain : goal.returns-in-Plain
returns-in-Plain g c = subst (λ (opened : Opened _). Opens g.S.Store c.args.archive opened) c.in-Plain.is c.in-Ok.ensures.ok
