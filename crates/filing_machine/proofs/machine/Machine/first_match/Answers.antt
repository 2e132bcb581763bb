use Rattle.std.proofs.Common.{◌≡◌, Some, is_some, sym, ap, ◌∙◌, slice_get}
use Rattle.filing_table.specs.Machine.{comparison_holds}
use Rattle.mail_case.specs.Fields.{field_at}
use Rattle.filing_machine.specs.declared.state.Item.TheVariants.{Fields}
use Rattle.filing_machine.specs.Runs.{Snapshot}
use Rattle.filing_machine.specs.Tops.{value_matches}
use Rattle.filing_machine.proofs.FindLemmas.{is_some_find, any_of_map, found_passes}
use Rattle.filing_machine.proofs.TopLemmas.{any_of_fields, none_of_another}
use Rattle.filing_machine.proofs.machine.Machine.first_match.Goals as goal

pub returns-in-Fields-clause-matches : goal.returns-in-Fields-clause-matches
returns-in-Fields-clause-matches g c =
    let test = value_matches (g.C.Case.facts c.args.case.now) c.args.comparison c.args.key.now in
    rw c.first_match.ensures (found_passes test _)

pub returns-in-Fields-clause-found : goal.returns-in-Fields-clause-found
returns-in-Fields-clause-found g c =
    let facts = g.C.Case.facts c.args.case.now in
    let test = value_matches facts c.args.comparison c.args.key.now in
    let on_top : slice_get c.args.self.now.at.stack 0 ≡ Some (Fields c.in-Fields.fields) =
    sym (ap (λ (m : Snapshot). slice_get m.at.stack 0) c.self.view_is) ∙ sym c.in_ok-fields.ensures ∙ ap (λ x. Some x) c.in-Fields.is in
    ap is_some c.first_match.ensures
    ∙ is_some_find test c.in-Fields.fields
    ∙ sym (any_of_map (comparison_holds c.args.comparison c.args.key.now) (λ place. (field_at facts place).value) c.in-Fields.fields)
    ∙ sym (any_of_fields facts c.args.comparison c.args.key.now c.args.self.now.at.stack c.in-Fields.fields on_top)

pub returns-in_default : goal.returns-in_default
returns-in_default g c =
    let facts = g.C.Case.facts c.args.case.now in
    let on_top : slice_get c.args.self.now.at.stack 0 ≡ Some c.in_ok-fields.field-0.now =
    sym (ap (λ (m : Snapshot). slice_get m.at.stack 0) c.self.view_is) ∙ sym c.in_ok-fields.ensures in
    record {
      matches = tt;
      found = sym (none_of_another facts c.args.comparison c.args.key.now c.args.self.now.at.stack
          c.in_ok-fields.field-0.now on_top c.in_default.not-Fields);
    }
