use Rattle.std.proofs.Common.{◌∙◌, false, refl, subst, sym}
use Rattle.record_archive.specs.Archive.{Archive}
use Rattle.cli_readings.specs.Exporting.{HandsOverSome, IsExported}
use Rattle.cli_readings.proofs.exporting.Exporting.export_live.Goals as goal

pub returns-then-is_last-clause-exported : goal.returns-then-is_last-clause-exported
returns-then-is_last-clause-exported g c = λ clean (a : Archive) s.
    let x = c.args.self.now in
    let listed = c.in_ok-list_met.ensures in
    subst (λ b. HandsOverSome g.D.Destination.made x.out
    (λ parts. IsExported x.volume false b a x.seals c.args.entry.now x.last x.last parts) c.list_met.new.out)
    (sym (sym c.is_last.ensures ∙ c.if-is_last.true)) (listed.0, (refl, listed.1), listed.2)

pub returns-clause-exported : goal.returns-clause-exported
returns-clause-exported g c = λ clean (a : Archive) s.
    let x = c.args.self.now in
    let y = c.export_new.new.self in
    subst (λ b. HandsOverSome g.D.Destination.made x.out
    (λ parts. IsExported x.volume false b a x.seals c.args.entry.now x.last y.last parts) y.out)
    (sym (sym c.is_last.ensures ∙ c.if-is_last.false)) (c.in_ok-export_new.ensures.exported clean a s)
