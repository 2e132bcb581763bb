use Rattle.std.proofs.Common.{◌-◌, List, ap, subst, sym}
use Rattle.std.specs.Prelude.{slice_get}
use Rattle.std.specs.Slice.{IsItemAt}
use Rattle.cli_readings.specs.Groups.{records_of}
use Rattle.cli_readings.specs.declared.groups.Sealed.{Sealed}
use Rattle.cli_readings.proofs.Grouped.{other_record}
use Rattle.cli_readings.proofs.groups.Group.record.Goals as goal

pub returns-then-place-eq0 : goal.returns-then-place-eq0
returns-then-place-eq0 c = ap (λ n. slice_get (records_of c.args.self.now) n) (sym c.if-place-eq0.true)

pub returns : goal.returns
returns c =
    let group = c.args.self.now in
    other_record group.first group.others.items c.args.place c.get.result c.copied.result c.if-place-eq0.false
    (subst (λ (rs : List Sealed). IsItemAt rs (c.args.place - 1) c.get.result) c.as_slice.ensures.value c.get.ensures.lookup) c.copied.ensures
