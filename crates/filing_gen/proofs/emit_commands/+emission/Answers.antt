use Rattle.std.proofs.Common.{◌≡◌, ◌+◌, ◌<◌, rules, [], ◌∷◌, ◌++◌, map, sym, ap, ◌∙◌, arith, refl, length, drop, Vec, Global}
use Rattle.std.proofs.lemmas.List.{length-set}
use Rattle.std.proofs.lemmas.List.Elements.{All-same, All-push, All-weaker}
use Rattle.std.proofs.lemmas.Result.{on_ok_weaker}
use Rattle.sieve_syntax.specs.View.{command_of, commands_of, inner_of, ending_of}
use Rattle.sieve_syntax.specs.declared.tree.Command.{Command}
use Rattle.sieve_syntax.specs.declared.tree.Ending.{Ending}
use Rattle.sieve_syntax.specs.declared.tree.Ending.TheViews.{the_lemmas, out-Command}
use Rattle.sieve_syntax.specs.Tree.{CommandTree, EndingTree}
use Rattle.sieve_syntax.proofs.Views.{ending_of-Block, command_of-fields}
use Rattle.sieve_meaning.specs.Words.{command_word}
use Rattle.sieve_meaning.specs.Reading.{only_in, block_in, program_of}
use Rattle.filing_image.specs.declared.instruction.Operation.TheVariants.{Jump, JumpUnless}
use Rattle.filing_flow.specs.Structure.{size}
use Rattle.filing_gen.specs.declared.output.Output.{Output}
use Rattle.filing_gen.specs.BlockCode.{test_flow, flow}
use Rattle.filing_gen.specs.Adds.{HasRoom}
use Rattle.filing_gen.specs.Emission.{commands_long, part_long, plain_flow}
use Rattle.sieve_meaning.specs.declared.branches.BranchPart.TheVariants.{Branch}
use Rattle.filing_gen.proofs.Emitted.{grows, put_grows}
use Rattle.filing_gen.specs.Ends.{no_place}
use Rattle.filing_gen.proofs.Turns.{flow_long}
use Rattle.filing_gen.proofs.Chains.{otherwise_open, plain_open, branch_open, stands_room, turn_ready, turn_stands, last_stands}
use Rattle.filing_gen.proofs.emit_commands.+emission.Goals as goal

pub emit_block-emit_commands-requires : goal.emit_block-emit_commands-requires
emit_block-emit_commands-requires g t c κs within =
    let e = ap (λ (x : Ending). commands_long (λ i. size (g.L.Linker.flow_of c.args.linker.now i)) (block_in (ending_of x))) c.in-Block.is in
    let d = ap (λ (x : EndingTree). commands_long (λ i. size (g.L.Linker.flow_of c.args.linker.now i)) (block_in x))
    (ending_of-Block c.in-Block.commands) in
    let inside =
    ap (λ (v : Vec Command Global).
    commands_long (λ i. size (g.L.Linker.flow_of c.args.linker.now i))
    (program_of (commands_of (map command_of v.items)))) c.deref.ensures in
    let room : HasRoom c.args.out.now (commands_long (λ i.
    size (g.L.Linker.flow_of c.args.linker.now i))
    (program_of (commands_of (map command_of c.deref.result.now.items)))) =
    (omega (arith, c.requires, e, d, inside), omega (arith, c.requires, e, d, inside), omega (arith, c.requires, e, d, inside)) in
    search (rules, the_lemmas, room)

pub emit_branch-emit_block-requires : goal.emit_branch-emit_block-requires
emit_branch-emit_block-requires g t c κs within =
    let x = out-Command c.args.command.now in
    let same = ap (λ (k : CommandTree). part_long (λ i. size (g.L.Linker.flow_of c.args.linker.now i)) Branch k)
    (command_of-fields c.args.command.now) in
    let p = put_grows c.emit_only.new.out c.put.new.out (JumpUnless no_place) c.in_ok-put.ensures in
    let q = grows c.args.out.now c.emit_only.new.out (test_flow (only_in (inner_of x.tests))) [] (c.in_ok-emit_only.ensures.adds []) in
    let room : HasRoom c.put.new.out (commands_long (λ i. size (g.L.Linker.flow_of c.args.linker.now i)) (block_in (ending_of x.ending))) = (
      omega (arith, c.requires.room, p.code, q.code, same),
      omega (arith, c.requires.room, p.texts, q.texts, same),
      omega (arith, c.requires.room, p.numbers, q.numbers, same),
    ) in
    search (rules, the_lemmas, room)

pub emit_branch-overflow_cast-last : goal.emit_branch-overflow_cast-last
emit_branch-overflow_cast-last g t c =
    let f = g.L.Linker.flow_of c.args.linker.now in
    let x = out-Command c.args.command.now in
    let o3 = c.emit_block.new.out in
    let xs = block_in (ending_of x.ending) in
    let same = ap (λ (k : CommandTree). part_long (λ i. size (f i)) Branch k) (command_of-fields c.args.command.now) in
    let p = put_grows c.emit_only.new.out c.put.new.out (JumpUnless no_place) c.in_ok-put.ensures in
    let q = grows c.args.out.now c.emit_only.new.out (test_flow (only_in (inner_of x.tests))) [] (c.in_ok-emit_only.ensures.adds []) in
    let r = grows c.put.new.out o3 (flow f 0 xs) (c.args.back ∷ []) (c.in_ok-emit_block.ensures.adds 0 (c.args.back ∷ []) refl) in
    omega (arith, c.requires.room, same, p.code, q.code, r.code, flow_long f 0 xs, c.len-last.ensures, o3.code.ok.0)

pub emit_branch-put_at-requires : goal.emit_branch-put_at-requires
emit_branch-put_at-requires g t c =
    let f = g.L.Linker.flow_of c.args.linker.now in
    let x = out-Command c.args.command.now in
    let o1 = c.emit_only.new.out in
    let r = grows c.put.new.out c.emit_block.new.out (flow f 0 (block_in (ending_of x.ending))) (c.args.back
    ∷ []) (c.in_ok-emit_block.ensures.adds 0 (c.args.back ∷ []) refl) in
    omega (arith, c.len-past.ensures, o1.code.ok.0, (put_grows o1 c.put.new.out (JumpUnless no_place) c.in_ok-put.ensures).code, r.code)

pub emit_branch-returns-clause-adds : goal.emit_branch-returns-clause-adds
emit_branch-returns-clause-adds g t c =
    let o1 = c.emit_only.new.out in
    let o3 = c.emit_block.new.out in
    on_ok_weaker c.put-2.result
    (branch_open (g.L.Linker.flow_of c.args.linker.now) c.args.back c.args.command.now c.args.out.now c.put-2.new.out
    c.args.jumps.now.items c.requires.places
    o1 c.put.new.out o3 c.put_at.new.out c.len-past.result c.len-last.result c.push.new.self.items (omega (
      arith,
      c.len-past.ensures,
      o1.code.ok.0,
    )) (omega (arith, c.len-last.ensures, o3.code.ok.0)) c.put_at.ensures
    c.in_ok-push.ensures.items
    c.in_ok-emit_only.ensures.adds c.in_ok-put.ensures c.in_ok-emit_block.ensures.adds) c.put-2.ensures

pub emit_branch-returns-clause-places : goal.emit_branch-returns-clause-places
emit_branch-returns-clause-places g t c =
    let f = g.L.Linker.flow_of c.args.linker.now in
    let x = out-Command c.args.command.now in
    let o3 = c.emit_block.new.out in
    let o4 = c.put-2.new.out in
    let jumps = c.args.jumps.now.items in
    let last = c.len-last.result in
    let p = put_grows c.emit_only.new.out c.put.new.out (JumpUnless no_place) c.in_ok-put.ensures in
    let q = grows c.args.out.now c.emit_only.new.out (test_flow (only_in (inner_of x.tests))) [] (c.in_ok-emit_only.ensures.adds []) in
    let r = grows c.put.new.out o3 (flow f 0 (block_in (ending_of x.ending))) (c.args.back
    ∷ []) (c.in_ok-emit_block.ensures.adds 0 (c.args.back ∷ []) refl) in
    let long : length c.put_at.new.out.code.items ≡ length o3.code.items =
    ap (λ (o : Output). length o.code.items) c.put_at.ensures
    ∙ length-set o3.code.items c.len-past.result (JumpUnless (last + 1)) in
    on_ok_weaker c.put-2.result (λ h.
    All-same (λ k. k < length o4.code.items) c.push.new.self.items (jumps ++ last ∷ []) c.in_ok-push.ensures.items
    (All-push (λ k. k < length o4.code.items) jumps last
    (All-weaker (λ k. k < length c.args.out.now.code.items) (λ k. k < length o4.code.items) (λ k lt. let w =
    put_grows c.put_at.new.out o4 (Jump no_place) h in omega (arith, lt, w.code, long, p.code, q.code, r.code))
    jumps c.requires.places)
    (let w = put_grows c.put_at.new.out o4 (Jump no_place) h in omega (arith, w.code, long, c.len-last.ensures, o3.code.ok.0)))) c.put-2.ensures

pub emit_part-returns-in-Otherwise-clause-adds : goal.emit_part-returns-in-Otherwise-clause-adds
emit_part-returns-in-Otherwise-clause-adds g t c =
    rw (c.in-Otherwise.is)
    (on_ok_weaker c.emit_block.result (otherwise_open (g.L.Linker.flow_of c.args.linker.now) c.args.back
    c.args.command.now c.args.out.now c.emit_block.new.out c.args.jumps.now.items c.requires.places)
    c.emit_block.ensures.adds)

pub emit_part-returns-in-Otherwise-clause-places : goal.emit_part-returns-in-Otherwise-clause-places
emit_part-returns-in-Otherwise-clause-places g t c =
    let f = g.L.Linker.flow_of c.args.linker.now in
    let x = out-Command c.args.command.now in
    let o0 = c.args.out.now in
    let o1 = c.emit_block.new.out in
    on_ok_weaker c.emit_block.result (λ h.
    let r = grows o0 o1 (flow f 0 (block_in (ending_of x.ending))) (c.args.back ∷ []) (h 0 (c.args.back ∷ []) refl) in
    All-weaker (λ k. k < length o0.code.items) (λ k. k < length o1.code.items) (λ k lt.
    omega (arith, lt, r.code)) c.args.jumps.now.items c.requires.places) c.emit_block.ensures.adds

pub emit_part-returns-in-Plain-clause-adds : goal.emit_part-returns-in-Plain-clause-adds
emit_part-returns-in-Plain-clause-adds g t c =
    rw (c.in-Plain.is)
    (on_ok_weaker c.emit_plain.result
    (plain_open (g.L.Linker.flow_of c.args.linker.now) c.args.back c.args.command.now c.args.out.now
    c.emit_plain.new.out c.args.jumps.now.items c.requires.places
    c.command_word-word.result (ap (λ n. command_word n) (sym c.as_slice.ensures)
    ∙ sym c.command_word-word.ensures) c.as_slice-in-Plain.result.now c.as_slice-in-Plain.ensures)
    c.emit_plain.ensures.adds)

pub emit_part-returns-in-Plain-clause-places : goal.emit_part-returns-in-Plain-clause-places
emit_part-returns-in-Plain-clause-places g t c =
    let f = g.L.Linker.flow_of c.args.linker.now in
    let o0 = c.args.out.now in
    let o1 = c.emit_plain.new.out in
    on_ok_weaker c.emit_plain.result (λ h.
    let r = grows o0 o1 (plain_flow f 0 c.command_word-word.result c.as_slice-in-Plain.result.now) (c.args.back ∷ []) (h 0 (c.args.back ∷ []) refl) in
    All-weaker (λ k. k < length o0.code.items) (λ k. k < length o1.code.items) (λ k lt.
    omega (arith, lt, r.code)) c.args.jumps.now.items c.requires.places) c.emit_plain.ensures.adds

pub emit_commands-end_before-requires-clause-room : goal.emit_commands-end_before-requires-clause-room
emit_commands-end_before-requires-clause-room g t c =
    let f = g.L.Linker.flow_of c.args.linker.now in
    let l = c.loop-command in
    let rest = commands_of (map command_of (drop l.command-index c.deref-command-items.result.now)) in
    let room = stands_room f c.args.back c.args.out.now l.out l.jumps.items l.is_open rest
    (program_of (commands_of (map command_of c.args.commands.now.items))) l.invariant c.requires in
    omega (arith, room.0)

pub emit_commands-emit_part-requires : goal.emit_commands-emit_part-requires
emit_commands-emit_part-requires g t c κs within =
    let f = g.L.Linker.flow_of c.args.linker.now in
    let l = c.loop-command in
    let whole = program_of (commands_of (map command_of c.args.commands.now.items)) in
    let named : command_word (out-Command c.command-item.result).name ≡ c.command_word-word.result =
    ap (λ n. command_word n) (sym c.as_slice.ensures) ∙ sym c.command_word-word.ensures in
    let ready = turn_ready f c.args.back c.args.out.now whole c.command_word-word.result l.is_open
    c.deref-command-items.result.now l.command-index c.command-item.result c.command-item.is
    c.loop-command-test.true named
    c.part_in-part.result c.part_in-part.ensures l.out c.end_before.new.out l.jumps.items c.end_before.new.jumps.items
    l.invariant c.end_before.ensures.out c.end_before.ensures.jumps c.requires in
    search (rules, the_lemmas, ready.0, ready.1)

pub emit_commands-loop-command-preserved : goal.emit_commands-loop-command-preserved
emit_commands-loop-command-preserved g t c =
    let f = g.L.Linker.flow_of c.args.linker.now in
    let l = c.loop-command in
    let whole = program_of (commands_of (map command_of c.args.commands.now.items)) in
    let named : command_word (out-Command c.command-item.result).name ≡ c.command_word-word.result =
    ap (λ n. command_word n) (sym c.as_slice.ensures) ∙ sym c.command_word-word.ensures in
    turn_stands f c.args.back c.args.out.now whole c.command_word-word.result l.is_open c.deref-command-items.result.now
    l.command-index c.command-item.result c.command-item.is c.loop-command-test.true named
    c.part_in-part.result c.part_in-part.ensures l.out c.end_before.new.out l.jumps.items c.end_before.new.jumps.items
    l.invariant c.end_before.ensures.out c.end_before.ensures.jumps
    c.emit_part.new.out c.emit_part.new.jumps.items c.in_ok-emit_part.ensures.adds c.in_ok-emit_part.ensures.places
    c.is_branch-is_open.result c.is_branch-is_open.ensures

pub emit_commands-end_branches-requires-clause-room : goal.emit_commands-end_branches-requires-clause-room
emit_commands-end_branches-requires-clause-room g t c =
    let f = g.L.Linker.flow_of c.args.linker.now in
    let l = c.loop-command in
    let rest = commands_of (map command_of (drop l.command-index c.deref-command-items.result.now)) in
    let room = stands_room f c.args.back c.args.out.now l.out l.jumps.items l.is_open rest
    (program_of (commands_of (map command_of c.args.commands.now.items))) l.invariant c.requires in
    omega (arith, room.0)

pub emit_commands-returns : goal.emit_commands-returns
emit_commands-returns g t c =
    let l = c.loop-command in
    record {
      adds =
          last_stands (g.L.Linker.flow_of c.args.linker.now) c.args.back c.args.out.now l.out c.end_branches.new.out
          l.jumps.items l.is_open c.deref-command-items.result.now l.command-index
          (program_of (commands_of (map command_of c.args.commands.now.items))) l.invariant c.loop-command-test.false
          c.end_branches.ensures.out;
    }

pub emit_part-returns-in-Branch-clause-adds : goal.emit_part-returns-in-Branch-clause-adds
emit_part-returns-in-Branch-clause-adds g t c = rw (c.in-Branch.is) c.emit_branch.ensures.adds
