use Rattle.std.proofs.Common.{◌≡◌, ℕ, [], ◌∷◌, length, refl, ◌∙◌, subst, arith}
use Rattle.std.proofs.lemmas.Result.{on_ok_weaker}
use Rattle.sieve_syntax.specs.View.{tree_of}
use Rattle.sieve_meaning.specs.Reading.{program_of}
use Rattle.filing_gen.specs.Ends.{no_place, IsEnded}
use Rattle.filing_gen.specs.BlockCode.{script_flow}
use Rattle.filing_gen.proofs.Emitted.{grows}
use Rattle.filing_gen.proofs.EndedBlocks.{block_ended}
use Rattle.filing_gen.proofs.Turns.{flow_long}
use Rattle.filing_gen.proofs.WrittenProcedures.{procedure_emitted}
use Rattle.filing_gen.proofs.emit_procedures.emit_script.Goals as goal

pub emit_commands-requires : goal.emit_commands-requires
emit_commands-requires g c =
    let long = flow_long (g.L.Linker.flow_of c.args.linker.now) 0 (program_of (tree_of c.args.script.now)) in
    (omega (arith, c.requires.room.0, long), omega (arith, c.requires.room.1, long), omega (arith, c.requires.room.2, long))

pub end_block-requires : goal.end_block-requires
end_block-requires g c =
    let a = script_flow (g.L.Linker.flow_of c.args.linker.now) (program_of (tree_of c.args.script.now)) in
    let q = grows c.args.out.now c.emit_commands.new.out a (no_place ∷ []) (c.in_ok-emit_commands.ensures.adds 0 (no_place ∷ []) refl) in
    record { start = omega (arith, c.len-start.ensures, c.args.out.now.code.ok.0, q.code); room = omega (arith, c.requires.room.0, q.code) }

pub returns : goal.returns
returns g c =
    let x = c.args.out.now in
    let z = c.emit_commands.new.out in
    let a = script_flow (g.L.Linker.flow_of c.args.linker.now) (program_of (tree_of c.args.script.now)) in
    let added = c.in_ok-emit_commands.ensures.adds 0 (no_place ∷ []) refl in
    let q = grows x z a (no_place ∷ []) added in
    let begins : c.len-start.result ≡ length x.code.items = c.len-start.ensures ∙ x.code.ok.0 in
    let body = block_ended x z c.end_block.new.out a [] [] c.requires.typed added (omega (
      arith,
      c.requires.room.0,
      q.code,
    )) (subst (λ (n : ℕ). IsEnded n (length z.code.items) z c.end_block.new.out) begins
    c.end_block.ensures) in
    on_ok_weaker c.put.result (λ h. procedure_emitted x c.end_block.new.out c.put.new.out a body h) c.put.ensures
