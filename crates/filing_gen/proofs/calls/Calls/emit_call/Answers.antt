use Rattle.std.proofs.Common.{◌≡◌, ℕ, suc, ◌+◌, refl, ap, arith}
use Rattle.std.proofs.lemmas.Result.{on_ok_weaker}
use Rattle.filing_image.specs.declared.instruction.Operation.TheVariants.{Mark, Call}
use Rattle.sieve_meaning.specs.declared.run_fault.RunFault.TheVariants.{NestingTooDeep}
use Rattle.filing_flow.specs.Structure.{SetMark, Fail, CallTo, action}
use Rattle.filing_gen.proofs.Emitted.{action_emitted, emits_sequence}
use Rattle.filing_gen.proofs.calls.Calls.emit_call.Goals as goal

pub returns-in-TooDeep : goal.returns-in-TooDeep
returns-in-TooDeep c = rw (c.in-TooDeep.is) c.put_fault.ensures.adds

pub returns-in_ok-put-in-To : goal.returns-in_ok-put-in-To
returns-in_ok-put-in-To c =
    let own = c.args.self.now.own in
    let n = c.in-To.number in
    let x = c.args.out.now in
    let y = c.put.new.out in
    let z = c.put-in-To.new.out in
    let same : own + 1 + n ≡ own + suc n = omega arith in
    rw (c.in-To.is)
    (on_ok_weaker c.put-in-To.result (λ h ends. emits_sequence x y z (action (SetMark c.args.slot)) (action (CallTo (own + suc n))) ends
    (action_emitted x y (Mark c.args.slot) (SetMark c.args.slot) c.in_ok-put-in-To.ensures refl ends)
    (action_emitted y z (Call (own + 1 + n)) (CallTo (own + suc n)) h (ap (λ (b : ℕ). Call b) same) ends))
    c.put-in-To.ensures)

pub returns-in_ok-put-in-Missing : goal.returns-in_ok-put-in-Missing
returns-in_ok-put-in-Missing c =
    let x = c.args.out.now in
    let y = c.put-in-Missing.new.out in
    let z = c.put_fault-in-Missing.new.out in
    rw (c.in-Missing.is)
    (on_ok_weaker c.put_fault-in-Missing.result (λ h ends. emits_sequence x y z (action (SetMark c.args.slot)) (action (Fail NestingTooDeep)) ends
    (action_emitted x y (Mark c.args.slot) (SetMark c.args.slot) c.in_ok-put-in-Missing.ensures refl ends) (h ends))
    c.put_fault-in-Missing.ensures.adds)
