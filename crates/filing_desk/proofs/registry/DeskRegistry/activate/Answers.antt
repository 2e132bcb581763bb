use Rattle.std.proofs.Common.{Err, ap, refl, subst, sym, true, ◌≡◌}
use Rattle.std.specs.Prelude.{is_some}
use Rattle.desk_commands.specs.Answers.{Answer}
use Rattle.desk_commands.specs.Office.{OfficeStep, activate, with_active}
use Rattle.desk_commands.specs.Pinning.{Officer, script_named}
use Rattle.desk_commands.specs.Scripts.{script_at}
use Rattle.desk_officers.specs.Register.{officer_at}
use Rattle.filing_desk.proofs.OfficerLemmas.{activate_refused, not_set, officer_is, set_by}
use Rattle.filing_desk.proofs.StepLemmas.{done_fault}
use Rattle.filing_desk.proofs.registry.DeskRegistry.activate.Goals as goal

pub returns-in_err-activate : goal.returns-in_err-activate
returns-in_err-activate g c =
    let result = c.from_residual.ensures in
    let refused = c.in_err-activate.ensures in
    not_set g.A.Records.keeper c.args.self.now _ (activate c.args.officer.now c.args.name.now) _
    refl (record { store = refl; flights = refl; last = refl; open_paths = refl }) refused.unchanged (λ x stands.
    let Q : Answer → Type 0 = λ a. OfficeStep x.office (activate c.args.officer.now c.args.name.now) a x.office in
    subst Q (sym (done_fault _ _ result.0 result.1)) (activate_refused x.office c.args.officer.now c.args.name.now
    (officer_at c.args.officer.now c.args.self.now.officers.officers) c.in_err-activate.field-0.0
    (officer_is g.A.Records.keeper c.args.self.now x c.args.officer.now stands) refused.fault
    (λ none. refused.no_script.0 (ap (λ f. Err f) none)) refused.no_script.1))

pub returns : goal.returns
returns g c =
    let set = c.in_ok-activate.ensures in
    set_by g.A.Records.keeper c.args.self.now _ (activate c.args.officer.now c.args.name.now) (λ s.
    with_active s c.args.officer.now (script_named c.args.name.now)) refl (record {
      store = refl;
      flights = refl;
      last =
          refl;
      open_paths = refl;
    }) (λ s. refl) set.done (λ x stands.
    let P : Officer → Type 0 = λ o. is_some (script_at c.args.name.now o.scripts) ≡ true in (
      subst P (officer_is g.A.Records.keeper c.args.self.now x c.args.officer.now stands) set.there,
      refl,
    ))
