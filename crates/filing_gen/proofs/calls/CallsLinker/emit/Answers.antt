use Rattle.std.proofs.Common.{◌≡◌, ◌≤◌, ◌<◌, ◌^◌, true, length, map, sym, ap, ◌∙◌, subst, arith}
use Rattle.std.proofs.lemmas.Result.{on_ok_weaker}
use Rattle.filing_flow.specs.Structure.{Flow, size}
use Rattle.sieve_meaning.specs.Program.{Include}
use Rattle.sieve_meaning.specs.Scripts.{include_view}
use Rattle.sieve_library.specs.BorrowedShelves.{scripts_of}
use Rattle.sieve_library.specs.Libraries.{library_of}
use Rattle.filing_procedures.specs.ProcedureCode.{procedure_of}
use Rattle.filing_procedures.specs.Slots.{slots_of}
use Rattle.filing_gen.specs.Adds.{Emits}
use Rattle.filing_gen.specs.IncludeCode.{once_flow}
use Rattle.filing_gen.specs.Inclusions.{code_of_call, code_of}
use Rattle.filing_gen.specs.Procedures.{calling_flow}
use Rattle.filing_gen.specs.Scopes.{names_of}
use Rattle.filing_gen.specs.declared.calls.Calls.{Calls}
use Rattle.filing_gen.specs.declared.callees.Inclusion.{Inclusion}
use Rattle.filing_gen.proofs.Emitted.{emits_nothing}
use Rattle.filing_gen.proofs.LevelLemmas.{once_long, once_emitted}
use Rattle.filing_gen.proofs.CallsEmitted.{code_typed, plain_code, once_code}
use Rattle.filing_gen.proofs.calls.CallsLinker.emit.Goals as goal
use Rattle.filing_gen.proofs.calls.CallsLinker.emit.Goals.{In-Enter, In_ok-emit_call}

-- the code of each include
abbrev flow_of : Calls → Include → Flow
flow_of s = calling_flow (library_of (scripts_of s.callees.scope.shelves))
    (slots_of (scripts_of s.callees.scope.shelves)) (names_of s.callees.scope.main) s.own
    (map procedure_of s.callees.later.now) (procedure_of s.callees.procedure.now)

pub returns-in-Pass : goal.returns-in-Pass
returns-in-Pass c =
    let own = c.args.self.now.own in
    let same = c.inclusion.ensures.code own ∙ ap (λ (j : Inclusion). code_of own c.args.include.now.is_once j) c.in-Pass.is in
    record { adds = λ ends. subst (λ (a : Flow). Emits c.args.out.now c.args.out.now a ends) (sym same) (emits_nothing c.args.out.now ends) }

pub returns-in-Fault : goal.returns-in-Fault
returns-in-Fault c =
    let own = c.args.self.now.own in
    let same = c.inclusion.ensures.code own ∙ ap (λ (j : Inclusion). code_of own c.args.include.now.is_once j) c.in-Fault.is in
    record {
      adds =
          on_ok_weaker c.put_fault.result (λ h ends.
          subst (λ (a : Flow). Emits c.args.out.now c.put_fault.new.out a ends) (sym same) (h ends))
          c.put_fault.ensures.adds;
    }

pub returns-then-not-include : goal.returns-then-not-include
returns-then-not-include c =
    let s = c.args.self.now in
    let i = c.args.include.now in
    let is = plain_code (flow_of s (include_view i)) s.own c.in-Enter.slot c.in-Enter.call i.is_once c.inclusion.result
    (c.inclusion.ensures.code s.own) c.in-Enter.is c.if-not-include.true in
    record {
      adds =
          on_ok_weaker c.emit_call.result (λ h ends.
          subst (λ (a : Flow). Emits c.args.out.now c.emit_call.new.out a ends) (sym is) (h ends)) c.emit_call.ensures;
    }

once : (c : In-Enter) → c.args.include.now.is_once ≡ true
    → flow_of c.args.self.now (include_view c.args.include.now)
    ≡ once_flow true c.in-Enter.slot (code_of_call c.args.self.now.own c.in-Enter.slot c.in-Enter.call)
once c =
    let s = c.args.self.now in
    let i = c.args.include.now in
    once_code (flow_of s (include_view i)) s.own c.in-Enter.slot c.in-Enter.call i.is_once c.inclusion.result
    (c.inclusion.ensures.code s.own) c.in-Enter.is

-- its end, which is among the places
ended : (c : In_ok-emit_call) → c.args.include.now.is_once ≡ true
    → (length c.args.out.now.code.items ≤ length c.emit_call-2.new.out.code.items)
    × (length c.emit_call-2.new.out.code.items < 2 ^ 16)
ended c marked =
    let long = once_long c.args.out.now c.put.new.out c.put-2.new.out c.emit_call-2.new.out c.in-Enter.slot
    (code_of_call c.args.self.now.own c.in-Enter.slot c.in-Enter.call) c.in_ok-put.ensures c.in_ok-put-2.ensures
    c.in_ok-emit_call.ensures in
    let same = ap (λ (a : Flow). size a) (once (goal.at.In_ok-emit_call c).In-Enter marked) in
    (omega (arith, long), omega (arith, long, c.requires.0, same))

pub end_block-requires : goal.end_block-requires
end_block-requires c =
    let e = ended (goal.at.end_block-requires c).In_ok-emit_call c.if-not-include.false in
    record { start = omega (arith, c.len-start.ensures, c.args.out.now.code.ok.0, e.0); room = e.1 }

pub returns : goal.returns
returns c =
    let own = c.args.self.now.own in
    let is = once (goal.at.returns c).In-Enter c.if-not-include.false in
    record {
      adds = λ ends.
          subst (λ (b : Flow). Emits c.args.out.now c.end_block.new.out b ends) (sym is)
          (once_emitted c.args.out.now c.put.new.out c.put-2.new.out c.emit_call-2.new.out c.in-Enter.slot
          (code_of_call own c.in-Enter.slot c.in-Enter.call) c.in_ok-put.ensures c.in_ok-put-2.ensures
          c.in_ok-emit_call.ensures c.end_block.new.out c.len-start.result
          (code_typed own c.in-Enter.slot c.in-Enter.call) (c.len-start.ensures ∙ c.args.out.now.code.ok.0)
          (ended (goal.at.returns c).In_ok-emit_call c.if-not-include.false).1 c.end_block.ensures ends);
    }
