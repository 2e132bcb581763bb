use Rattle.std.proofs.Common.{◌≡◌, [], ◌∷◌, ap, ◌∙◌, refl, subst, arith, true}
use Rattle.std.proofs.lemmas.Result.{on_ok_weaker}
use Rattle.sieve_syntax.specs.Arguments.{first_of, others_of}
use Rattle.filing_flow.specs.Structure.{Flow, size, action, sequence, leave_if, MatchKey}
use Rattle.filing_gen.specs.Adds.{Emits}
use Rattle.filing_gen.specs.Ends.{no_place}
use Rattle.filing_gen.specs.BlockCode.{keys_flow}
use Rattle.filing_gen.proofs.Emitted.{grows}
use Rattle.filing_gen.proofs.EmittedTests.{keys_emitted, same_keys}
use Rattle.filing_gen.proofs.emit_tests.emit_keys.Goals as goal

pub emit_other_keys-requires : goal.emit_other_keys-requires
emit_other_keys-requires c =
    let p = grows c.args.out.now c.emit_key.new.out (sequence (action (MatchKey c.args.how c.as_slice.result.now))
    (leave_if true 0)) (no_place ∷ []) (c.in_ok-emit_key.ensures (no_place ∷ []) refl) in
    let same : size (keys_flow c.args.how c.others.result.now)
    ≡ size (keys_flow c.args.how (others_of c.args.keys.now)) =
    ap (λ l. size (keys_flow c.args.how l)) c.others.ensures in
    (omega (arith, c.requires, p.code, same), omega (arith, c.requires, p.texts, same), omega (arith, c.requires, p.numbers, same))

pub returns : goal.returns
returns c =
    on_ok_weaker c.emit_other_keys.result (λ h ends there.
    subst (λ (a : Flow). Emits c.args.out.now c.emit_other_keys.new.out a ends)
    (same_keys c.args.how c.as_slice.result.now (first_of c.args.keys.now) c.others.result.now
    (others_of c.args.keys.now) (c.as_slice.ensures.value ∙ c.first.ensures) c.others.ensures)
    (keys_emitted c.args.out.now c.emit_key.new.out c.emit_other_keys.new.out c.args.how c.as_slice.result.now
    c.others.result.now c.in_ok-emit_key.ensures h ends there))
    c.emit_other_keys.ensures
