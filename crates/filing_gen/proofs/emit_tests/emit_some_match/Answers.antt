use Rattle.std.proofs.Common.{◌<◌, ◌^◌, ◌+◌, ◌∷◌, [], refl, arith, ◌∙◌}
use Rattle.std.proofs.lemmas.Result.{on_ok_weaker}
use Rattle.sieve_syntax.specs.Arguments.{first_of, others_of}
use Rattle.filing_flow.specs.Structure.{size, sequence, action, ValuesOf}
use Rattle.filing_gen.specs.Ends.{no_place}
use Rattle.filing_gen.specs.Names.{other_names}
use Rattle.filing_gen.specs.BlockCode.{values_flow, keys_flow}
use Rattle.filing_gen.proofs.Emitted.{Grows, grows}
use Rattle.filing_gen.proofs.EmittedTests.{header_emitted}
use Rattle.filing_gen.proofs.emit_tests.emit_some_match.Goals as goal
use Rattle.filing_gen.proofs.emit_tests.emit_some_match.Goals.{In_ok-emit_values, In_ok-emit_keys, After-len}

values_grow : (c : In_ok-emit_values)
    → Grows c.args.out.now c.emit_values.new.out
    (size (sequence (action (ValuesOf (first_of c.args.names.now))) (values_flow (other_names c.args.names.now))))
values_grow c = grows _ _ _ [] (c.in_ok-emit_values.ensures [])

keys_grow : (c : In_ok-emit_keys)
    → Grows c.emit_values.new.out c.emit_keys.new.out
    (size (keys_flow c.args.how (first_of c.args.keys.now ∷ others_of c.args.keys.now)))
keys_grow c = grows _ _ _ (no_place ∷ []) (c.in_ok-emit_keys.ensures (no_place ∷ []) refl)

-- the room for what follows
fits : (c : After-len) → c.len.result + 5 < 2 ^ 16
fits c =
    let at = goal.at.After-len c in
    let o2 = c.emit_keys.new.out in
    omega (arith, c.requires, (values_grow at.In_ok-emit_values).code, (keys_grow at.In_ok-emit_keys).code, c.len.ensures, o2.code.ok.0)

pub emit_keys-requires : goal.emit_keys-requires
emit_keys-requires c =
    let p = values_grow (goal.at.emit_keys-requires c).In_ok-emit_values in
    (omega (arith, c.requires, p.code), omega (arith, c.requires, p.texts), omega (arith, c.requires, p.numbers))

pub overflow_cast-found : goal.overflow_cast-found
overflow_cast-found c = omega (arith, fits (goal.at.overflow_cast-found c).After-len)

pub overflow_add-found-2 : goal.overflow_add-found-2
overflow_add-found-2 c = omega (arith, fits (goal.at.overflow_add-found-2 c).After-len)

pub end_block_at-requires : goal.end_block_at-requires
end_block_at-requires c =
    let q = keys_grow (goal.at.end_block_at-requires c).In_ok-emit_keys in
    let o1 = c.emit_values.new.out in
    omega (arith, q.code, c.len-start.ensures, o1.code.ok.0)

pub returns : goal.returns
returns c =
    let o1 = c.emit_values.new.out in
    let o2 = c.emit_keys.new.out in
    record {
      adds = on_ok_weaker c.put_found.result
          (header_emitted c.args.out.now o1 o2 c.end_block_at.new.out c.put_missed.new.out c.put_found.new.out
          c.args.how (first_of c.args.names.now) (other_names c.args.names.now) (first_of c.args.keys.now)
          (others_of c.args.keys.now) c.len-start.result (c.len.result + 3)
          (c.len-start.ensures ∙ o1.code.ok.0) (omega (arith, c.len.ensures, o2.code.ok.0))
          (omega (arith, fits (goal.at.returns c).After-len))
          c.in_ok-emit_values.ensures c.in_ok-emit_keys.ensures c.end_block_at.ensures c.in_ok-put_missed.ensures) c.put_found.ensures;
    }
