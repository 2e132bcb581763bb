use Rattle.std.proofs.Common.{◌≡◌, [], ◌∷◌, ap, ◌∙◌, refl, subst, arith, false}
use Rattle.std.proofs.lemmas.Result.{on_ok_weaker}
use Rattle.sieve_syntax.specs.Arguments.{first_of, others_of}
use Rattle.filing_flow.specs.Structure.{Flow, size, action, sequence, leave_if, HasField}
use Rattle.filing_gen.specs.Adds.{Emits}
use Rattle.filing_gen.specs.Ends.{no_place}
use Rattle.filing_gen.specs.Names.{others_once}
use Rattle.filing_gen.specs.BlockCode.{names_flow}
use Rattle.filing_gen.proofs.Emitted.{grows}
use Rattle.filing_gen.proofs.EmittedTests.{names_emitted, same_names}
use Rattle.filing_gen.proofs.emit_tests.emit_names.Goals as goal

pub emit_other_names-requires : goal.emit_other_names-requires
emit_other_names-requires c =
    let first = c.as_slice-first.ensures.value ∙ c.first.ensures in
    let p = grows c.args.out.now c.emit_name.new.out (sequence (action (HasField c.as_slice-first.result.now))
    (leave_if false 0)) (no_place ∷ []) (c.in_ok-emit_name.ensures (no_place ∷ []) refl) in
    let same : size (names_flow (others_once c.as_slice-first.result.now c.others.result.now))
    ≡ size (names_flow (others_once (first_of c.args.names.now) (others_of c.args.names.now))) =
    ap (λ n. size (names_flow (others_once n c.others.result.now))) first
    ∙ ap (λ l. size (names_flow (others_once (first_of c.args.names.now) l))) c.others.ensures in
    (omega (arith, c.requires, p.code, same), omega (arith, c.requires, p.texts, same), omega (arith, c.requires, p.numbers, same))

pub returns : goal.returns
returns c =
    on_ok_weaker c.emit_other_names.result (λ h ends there.
    subst (λ (a : Flow). Emits c.args.out.now c.emit_other_names.new.out a ends)
    (same_names c.as_slice-first.result.now (first_of c.args.names.now) c.others.result.now
    (others_of c.args.names.now) (c.as_slice-first.ensures.value ∙ c.first.ensures) c.others.ensures)
    (names_emitted c.args.out.now c.emit_name.new.out c.emit_other_names.new.out c.as_slice-first.result.now
    (others_once c.as_slice-first.result.now c.others.result.now) c.in_ok-emit_name.ensures h ends there))
    c.emit_other_names.ensures
