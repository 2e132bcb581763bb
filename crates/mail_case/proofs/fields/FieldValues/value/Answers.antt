use Rattle.std.proofs.Common.{length, ap, arith, ◌∙◌}
use Rattle.mail_case.proofs.ValueLemmas.{length-fields, has_field}
use Rattle.mail_case.proofs.fields.FieldValues.value.Goals as goal

pub index-ends-requires : goal.index-ends-requires
index-ends-requires c =
    omega (
      arith,
      c.requires,
      ap length c.self.view_is,
      length-fields c.self.inside.octets.items 0 c.self.inside.ends.items,
      c.self.inside.ends.ok.0,
    )

pub part-requires-clause-order : goal.part-requires-clause-order
part-requires-clause-order c =
    (has_field c.args.self.now c.self.inside.octets.items c.self.inside.ends.items c.args.place c.index-ends.result.now
    c.self.view_is c.self.invariant c.requires c.index-ends.ensures).value

pub part-requires-clause-within : goal.part-requires-clause-within
part-requires-clause-within c =
    rw c.as_slice.ensures.value
    ((has_field c.args.self.now c.self.inside.octets.items c.self.inside.ends.items c.args.place c.index-ends.result.now
    c.self.view_is c.self.invariant c.requires c.index-ends.ensures).within)

pub returns : goal.returns
returns c = c.part.ensures
    ∙ rw c.as_slice.ensures.value
    ((has_field c.args.self.now c.self.inside.octets.items c.self.inside.ends.items c.args.place c.index-ends.result.now
    c.self.view_is c.self.invariant c.requires c.index-ends.ensures).value_is)
