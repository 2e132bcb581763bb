use Rattle.std.proofs.Common.{Err, ap, inl, refl, subst, sym}
use Rattle.sieve_syntax.specs.View.{tree_of}
use Rattle.sieve_meaning.specs.Reading.{program_of}
use Rattle.desk_commands.specs.Answers.{Answer}
use Rattle.desk_commands.specs.Limits.{greatest_script}
use Rattle.desk_commands.specs.Office.{OfficeStep, set_script}
use Rattle.desk_commands.specs.Parts.{RefusesScript}
use Rattle.desk_commands.specs.Pinning.{Officer}
use Rattle.desk_commands.specs.Scripts.{put_script}
use Rattle.desk_officers.specs.Register.{with_own_script, officer_at}
use Rattle.filing_desk.proofs.FaultLemmas.{refused_part}
use Rattle.filing_desk.proofs.OfficerLemmas.{keep_refused, kept, not_set, officer_is, set_by}
use Rattle.filing_desk.proofs.StepLemmas.{done_fault}
use Rattle.filing_desk.proofs.registry.DeskRegistry.set_script.Goals as goal

pub returns-in_err-script : goal.returns-in_err-script
returns-in_err-script g c = λ t is.
    let result = c.from_residual.ensures in
    refused_part g.A.Records.keeper c.args.self.now (set_script c.args.officer.now c.args.name.now t)
    (RefusesScript t) greatest_script t c.in_err-script.field-0.0 _ (λ x n r. inl r) (λ x n l.
    l) (done_fault _ _ result.0 result.1) (c.in_err-script.ensures.refused t is)

pub returns-in_err-set_script : goal.returns-in_err-set_script
returns-in_err-set_script g c = λ t is.
    let result = c.from_residual-in_err-set_script.ensures in
    let refused = c.in_err-set_script.ensures in
    not_set g.A.Records.keeper c.args.self.now _ (set_script c.args.officer.now c.args.name.now t) _
    refl (record { store = refl; flights = refl; last = refl; open_paths = refl }) refused.unchanged (λ x stands.
    let Q : Answer → Type 0 = λ a. OfficeStep x.office (set_script c.args.officer.now c.args.name.now t) a x.office in
    subst Q (sym (done_fault _ _ result.0 result.1))
    (keep_refused x.office (set_script c.args.officer.now c.args.name.now t)
    (x.office.officers c.args.officer.now).scripts
    (officer_at c.args.officer.now c.args.self.now.officers.officers).scripts c.args.name.now t
    (tree_of c.in_ok-script.script.script) c.in_err-set_script.field-0.0 (λ n r. r) (λ n l.
    l) (ap (λ (o : Officer).
    o.scripts) (officer_is g.A.Records.keeper c.args.self.now x c.args.officer.now stands))
    (c.in_ok-script.ensures.good t is) (c.in_ok-script.ensures.short t is) refused.fault (λ full.
    refused.full (ap (λ f. Err f) full))))

pub returns : goal.returns
returns g c = λ t is.
    let set = c.in_ok-set_script.ensures in
    let main = program_of (tree_of c.in_ok-script.script.script) in
    set_by g.A.Records.keeper c.args.self.now _ (set_script c.args.officer.now c.args.name.now t)
    (λ s. with_own_script s c.args.officer.now c.args.name.now main) refl (record {
      store = refl;
      flights = refl;
      last =
          refl;
      open_paths = refl;
    }) (λ s. refl) set.done (λ x stands. (
      put_script c.args.name.now main (x.office.officers c.args.officer.now).scripts,
      kept (x.office.officers c.args.officer.now).scripts
          (officer_at c.args.officer.now c.args.self.now.officers.officers).scripts c.args.name.now t
          (tree_of c.in_ok-script.script.script) (ap (λ (o : Officer).
          o.scripts) (officer_is g.A.Records.keeper c.args.self.now x c.args.officer.now stands))
          (c.in_ok-script.ensures.good t is) set.has_room,
      refl,
    ))
