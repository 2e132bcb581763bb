use Rattle.std.proofs.Common.{◌<◌, length, sym, ◌∙◌, arith}
use Rattle.filing_machine.proofs.PlaceLemmas.{AreNamed-more, AreNamed-same}
use Rattle.filing_machine.proofs.fields.fields_named.Goals as goal
use Rattle.filing_machine.proofs.fields.fields_named.Goals.{then-is_named+in_ok-push, else-is_named}

pub loop-field-preserved : goal.loop-field-preserved
loop-field-preserved g c =
    let facts = g.C.Case.facts c.args.case.now in
    let lt : c.loop-field.field < length facts.fields = omega (arith, c.loop-field-test.true, c.field_count-field-end.ensures) in
    elim c.if-is_named.branch [
      | then-is_named+in_ok-push w ↦
          rw w.fields-is (AreNamed-more facts c.args.name.now c.loop-field.fields w.push.new.self c.loop-field.field
          c.loop-field.invariant lt (sym c.is_named.ensures ∙ w.if-is_named.true) w.in_ok-push.ensures.ok)
      | else-is_named w ↦
          rw w.fields-is (AreNamed-same facts c.args.name.now c.loop-field.fields c.loop-field.field
          c.loop-field.invariant lt (sym c.is_named.ensures ∙ w.if-is_named.false))
    ]
