use Rattle.std.proofs.Common.{◌≡◌, ℕ, [], ◌∷◌, refl, sym, subst, map, arith, length, ap}
use Rattle.sieve_syntax.specs.View.{command_of, commands_of}
use Rattle.sieve_meaning.specs.Reading.{program_of}
use Rattle.filing_flow.specs.Structure.{block, action, End}
use Rattle.filing_gen.specs.declared.output.Output.{Output}
use Rattle.filing_gen.specs.Ends.{no_place, IsEnded}
use Rattle.filing_image.specs.declared.instruction.Operation.TheVariants.{Stop}
use Rattle.filing_gen.specs.BlockCode.{script_flow}
use Rattle.filing_gen.proofs.Emitted.{emits_sequence, action_emitted, grows}
use Rattle.filing_gen.proofs.EndedBlocks.{block_ended}
use Rattle.filing_gen.proofs.Turns.{flow_long, code_of_empty}
use Rattle.filing_gen.proofs.program.emit_program.Goals as goal

pub end_block-requires : goal.end_block-requires
end_block-requires g c =
    let f = g.L.Linker.flow_of c.args.linker.now in
    let main = program_of (commands_of (map command_of c.args.main.now.items)) in
    let o0 : Output = c.in_ok-out.out in
    let q = grows o0 c.emit_commands.new.out (script_flow f main) (no_place ∷ []) (c.in_ok-emit_commands.ensures.adds 0 (no_place ∷ []) refl) in
    record { start = omega arith; room = omega (arith, c.requires.room, flow_long f 0 main, q.code, ap length c.in_ok-out.ensures.code) }

pub returns : goal.returns
returns g c =
    let f = g.L.Linker.flow_of c.args.linker.now in
    let main = program_of (commands_of (map command_of c.args.main.now.items)) in
    let o0 : Output = c.in_ok-out.out in
    let z = c.emit_commands.new.out in
    let added = c.in_ok-emit_commands.ensures.adds 0 (no_place ∷ []) refl in
    let q = grows o0 z (script_flow f main) (no_place ∷ []) added in
    let begins : 0 ≡ length o0.code.items = sym (ap length c.in_ok-out.ensures.code) in
    let body = block_ended o0 z c.end_block.new.out (script_flow f main) [] [] c.requires.typed added (omega (
      arith,
      c.requires.room,
      flow_long f 0 main,
      q.code,
      ap length c.in_ok-out.ensures.code,
    ))
    (subst (λ (n : ℕ). IsEnded n (length z.code.items) z c.end_block.new.out) begins c.end_block.ensures) in
    code_of_empty o0 c.put.new.out (script_flow f main) c.in_ok-out.ensures.texts c.in_ok-out.ensures.numbers c.in_ok-out.ensures.code
    (emits_sequence o0 c.end_block.new.out c.put.new.out (block (script_flow f main)) (action End) [] body
    (action_emitted c.end_block.new.out c.put.new.out Stop End c.in_ok-put.ensures refl []))
