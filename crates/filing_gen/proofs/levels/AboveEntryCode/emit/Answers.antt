use Rattle.std.proofs.Common.{◌≡◌, ℕ, [], ◌∷◌, length, refl, subst, ◌∙◌, arith}
use Rattle.sieve_syntax.specs.View.{tree_of}
use Rattle.sieve_meaning.specs.Reading.{program_of}
use Rattle.sieve_library.specs.BorrowedShelves.{scripts_of}
use Rattle.sieve_library.specs.Libraries.{library_of}
use Rattle.filing_gen.specs.Ends.{no_place, IsEnded}
use Rattle.filing_image.specs.declared.instruction.Operation.TheVariants.{Mark}
use Rattle.filing_procedures.specs.Slots.{slots_of}
use Rattle.filing_gen.specs.IncludeCode.{included_flow}
use Rattle.filing_gen.specs.Scopes.{names_of}
use Rattle.filing_gen.specs.BlockCode.{flow}
use Rattle.filing_gen.proofs.Turns.{flow_long}
use Rattle.filing_gen.proofs.Emitted.{grows, put_grows}
use Rattle.filing_gen.proofs.IncludesTypes.{included_typed}
use Rattle.filing_gen.proofs.LevelLemmas.{entry_emitted}
use Rattle.filing_gen.proofs.levels.AboveEntryCode.emit.Goals as goal

pub emit_commands-requires : goal.emit_commands-requires
emit_commands-requires g c =
    let s = c.args.scope.now in
    let long = flow_long (included_flow (library_of (scripts_of s.shelves)) (slots_of (scripts_of s.shelves))
    (names_of s.main) g.L.Level.depth (g.C.Chain.names c.args.chain.now)) 0
    (program_of (tree_of c.args.script.now)) in
    let p = put_grows c.args.out.now c.put.new.out (Mark c.args.slot) c.in_ok-put.ensures in
    (omega (arith, c.requires.room, p.code, long), omega (arith, c.requires.room, p.texts, long), omega (arith, c.requires.room, p.numbers, long))

pub end_block-requires : goal.end_block-requires
end_block-requires g c =
    let s = c.args.scope.now in
    let f = included_flow (library_of (scripts_of s.shelves)) (slots_of (scripts_of s.shelves)) (names_of s.main)
    g.L.Level.depth (g.C.Chain.names c.args.chain.now) in
    let p = put_grows c.args.out.now c.put.new.out (Mark c.args.slot) c.in_ok-put.ensures in
    let q = grows c.put.new.out c.emit_commands.new.out (flow f 0 (program_of (tree_of c.args.script.now))) (no_place
    ∷ []) (c.in_ok-emit_commands.ensures.adds 0 (no_place ∷ []) refl) in
    record {
      start = omega (arith, c.len-start.ensures, c.args.out.now.code.ok.0, p.code, q.code);
      room =
          omega (arith, c.requires.room, p.code, q.code);
    }

pub returns : goal.returns
returns g c =
    let s = c.args.scope.now in
    let f = included_flow (library_of (scripts_of s.shelves)) (slots_of (scripts_of s.shelves)) (names_of s.main)
    g.L.Level.depth (g.C.Chain.names c.args.chain.now) in
    let z = c.emit_commands.new.out in
    let p = put_grows c.args.out.now c.put.new.out (Mark c.args.slot) c.in_ok-put.ensures in
    let q = grows c.put.new.out z (flow f 0 (program_of (tree_of c.args.script.now))) (no_place
    ∷ []) (c.in_ok-emit_commands.ensures.adds 0 (no_place ∷ []) refl) in
    let begins : c.len-start.result ≡ length c.args.out.now.code.items = c.len-start.ensures ∙ c.args.out.now.code.ok.0 in
    record {
      adds = entry_emitted c.args.out.now c.put.new.out z c.end_block.new.out c.args.slot f
          (included_typed (library_of (scripts_of s.shelves)) (slots_of (scripts_of s.shelves)) (names_of s.main)
          g.L.Level.depth (g.C.Chain.names c.args.chain.now)) (program_of (tree_of c.args.script.now))
          c.in_ok-put.ensures c.in_ok-emit_commands.ensures.adds (omega (arith, c.requires.room, p.code, q.code))
          (subst (λ (n : ℕ). IsEnded n (length z.code.items) z c.end_block.new.out) begins c.end_block.ensures);
    }
