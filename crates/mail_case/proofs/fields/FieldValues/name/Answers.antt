use Rattle.std.proofs.Common.{length, ap, arith, ◌∙◌}
use Rattle.mail_case.proofs.ValueLemmas.{length-fields, has_field}
use Rattle.mail_case.proofs.fields.FieldValues.name.Goals as goal

pub start_of-start-requires : goal.start_of-start-requires
start_of-start-requires c =
    rw c.as_slice.ensures.value (omega (
      arith,
      c.requires,
      ap length c.self.view_is,
      length-fields c.self.inside.octets.items 0 c.self.inside.ends.items,
    ))

pub index-requires : goal.index-requires
index-requires c =
    omega (
      arith,
      c.requires,
      ap length c.self.view_is,
      length-fields c.self.inside.octets.items 0 c.self.inside.ends.items,
      c.self.inside.ends.ok.0,
    )

pub part-requires-clause-order : goal.part-requires-clause-order
part-requires-clause-order c =
    rw (
      c.start_of-start.ensures,
      c.as_slice.ensures.value,
    )
    ((has_field c.args.self.now c.self.inside.octets.items c.self.inside.ends.items c.args.place c.index.result.now
    c.self.view_is c.self.invariant c.requires c.index.ensures).name)

pub part-requires-clause-within : goal.part-requires-clause-within
part-requires-clause-within c = let f =
    has_field c.args.self.now c.self.inside.octets.items c.self.inside.ends.items c.args.place c.index.result.now
    c.self.view_is c.self.invariant c.requires c.index.ensures in
    rw c.as_slice-2.ensures.value (omega (arith, f.value, f.within))

pub returns : goal.returns
returns c =
    let f = has_field c.args.self.now c.self.inside.octets.items c.self.inside.ends.items c.args.place
    c.index.result.now c.self.view_is c.self.invariant c.requires c.index.ensures in
    c.part.ensures ∙ rw (c.as_slice-2.ensures.value, c.start_of-start.ensures, c.as_slice.ensures.value) f.name_is
