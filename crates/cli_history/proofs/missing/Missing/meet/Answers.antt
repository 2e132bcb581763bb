use Rattle.std.proofs.Common.{◌∙◌, ap, sym}
use Rattle.std.specs.List.{list_any}
use Rattle.record_history.specs.Views.{deed_view}
use Rattle.cli_history.specs.Chosen.{meets, subjects}
use Rattle.cli_history.proofs.MissingLemmas.{about_none, about_some, none_taken}
use Rattle.cli_history.proofs.missing.Missing.meet.Goals as goal

pub returns-in_default : goal.returns-in_default
returns-in_default c =
    about_none c.args.self.now.rest.items (subjects (deed_view c.args.deed.now)) (sym c.in_default.is ∙ c.records_of.ensures)

pub returns-else-any_touches : goal.returns-else-any_touches
returns-else-any_touches c =
    let rest = c.args.self.now.rest.items in
    let test = meets c.in-Some.first c.in-Some.last in
    sym (none_taken test rest (sym (c.any_touches.ensures ∙ ap (list_any test) c.as_slice.ensures.value) ∙ c.if-any_touches.false))
    ∙ about_some rest c.in-Some.first c.in-Some.last (subjects (deed_view c.args.deed.now)) c.in-Some.ensures
