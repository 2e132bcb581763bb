use Rattle.std.proofs.Common.{◌≡◌, [], ap, ◌∙◌, subst, arith}
use Rattle.std.proofs.lemmas.Result.{on_ok_weaker}
use Rattle.sieve_syntax.specs.Arguments.{first_of, others_of}
use Rattle.filing_flow.specs.Structure.{Flow, size, action, ValuesOf}
use Rattle.filing_gen.specs.Adds.{Emits}
use Rattle.filing_gen.specs.Names.{others_once}
use Rattle.filing_gen.specs.BlockCode.{values_flow}
use Rattle.filing_gen.proofs.Emitted.{emits_sequence, grows}
use Rattle.filing_gen.proofs.EmittedTests.{same_values}
use Rattle.filing_gen.proofs.emit_tests.emit_values.Goals as goal

pub emit_other_names-requires : goal.emit_other_names-requires
emit_other_names-requires c =
    let first = c.as_slice-first.ensures.value ∙ c.first.ensures in
    let p = grows c.args.out.now c.emit_value.new.out (action (ValuesOf c.as_slice-first.result.now)) [] (c.in_ok-emit_value.ensures []) in
    let same : size (values_flow (others_once c.as_slice-first.result.now c.others.result.now))
    ≡ size (values_flow (others_once (first_of c.args.names.now) (others_of c.args.names.now))) =
    ap (λ n. size (values_flow (others_once n c.others.result.now))) first
    ∙ ap (λ l. size (values_flow (others_once (first_of c.args.names.now) l))) c.others.ensures in
    (omega (arith, c.requires, p.code, same), omega (arith, c.requires, p.texts, same), omega (arith, c.requires, p.numbers, same))

pub returns : goal.returns
returns c =
    on_ok_weaker c.emit_other_names.result (λ h ends.
    subst (λ (a : Flow). Emits c.args.out.now c.emit_other_names.new.out a ends)
    (same_values c.as_slice-first.result.now (first_of c.args.names.now) c.others.result.now
    (others_of c.args.names.now) (c.as_slice-first.ensures.value ∙ c.first.ensures) c.others.ensures)
    (emits_sequence c.args.out.now c.emit_value.new.out c.emit_other_names.new.out
    (action (ValuesOf c.as_slice-first.result.now))
    (values_flow (others_once c.as_slice-first.result.now c.others.result.now)) ends
    (c.in_ok-emit_value.ensures ends) (h ends tt)))
    c.emit_other_names.ensures
