use Rattle.std.proofs.Common.{◌≡◌, ℕ, [], ◌∷◌, Bool, true, false, Option, Result, Ok, Err, refl, sym, subst, ◌∙◌, ap, inl, inr, arith}
use Rattle.std.proofs.lemmas.Grind.{common_steps}
use Rattle.desk_commands.specs.Answers.{begun}
use Rattle.desk_commands.specs.Faults.{refused_by}
use Rattle.desk_commands.specs.Standing.{begin}
use Rattle.desk_commands.specs.declared.fault.DeskFault.{DeskFault}
use Rattle.filing_desk.specs.Standing.{desk_keeper}
use Rattle.filing_desk.specs.Deliveries.{BeginsCapture, MakesTurns, begins, first_calls, turns}
use Rattle.filing_desk.proofs.CallLemmas.{calls_on, one_call, passed_on}
use Rattle.filing_desk.proofs.deliveries.begin_and_run.Goals as goal

pub returns-in_err-ticket : goal.returns-in_err-ticket
returns-in_err-ticket g c = λ m is.
    let keeper = desk_keeper g.A.Records.keeper in
    let out = c.from_residual in
    let fault = c.in_err-ticket.field-0.0 in
    let asked = begin c.args.officer.now c.args.moment m in
    let Told : Result (Option ℕ) DeskFault → Type 0 = λ r.
    BeginsCapture keeper g.P.Patience.asked c.args.desk.now c.args.officer.now c.args.moment m c.args.patience.now r
    c.args.patience.now c.begin.new.self in
    subst Told (sym (passed_on out.result fault out.ensures.0 out.ensures.1)) (
      record { command = asked; answer = refused_by fault } ∷ [],
      inl (refl, refl),
      one_call keeper c.args.desk.now c.begin.new.self asked (refused_by fault) (c.in_err-ticket.ensures m is),
    )

pub returns-in_err-lasted : goal.returns-in_err-lasted
returns-in_err-lasted g c = λ m is.
    let keeper = desk_keeper g.A.Records.keeper in
    let out = c.from_residual-in_err-lasted in
    let fault = c.in_err-lasted.field-0.0 in
    let t = c.in_ok-ticket.ticket in
    let b = c.in_ok-ticket.budget in
    let first = begins c.args.officer.now c.args.moment m t b in
    let Told : Result (Option ℕ) DeskFault → Type 0 = λ r.
    BeginsCapture keeper g.P.Patience.asked c.args.desk.now c.args.officer.now c.args.moment m c.args.patience.now r
    c.make_turns.new.patience c.make_turns.new.desk in
    let Made : ℕ → Type 0 = λ n.
    MakesTurns keeper g.P.Patience.asked c.begin.new.self n b c.args.patience.now (Err fault) c.make_turns.new.patience
    c.make_turns.new.desk in
    let made = subst Made c.from.ensures c.in_err-lasted.ensures in
    subst Told (sym (passed_on out.result fault out.ensures.0 out.ensures.1)) (
      first_calls c.args.officer.now c.args.moment m t b made.0.made made.0.last,
      inr (t, b, made.0, made.1, refl),
      calls_on keeper c.args.desk.now c.begin.new.self c.make_turns.new.desk
          (first ∷ []) (turns t made.0.made made.0.last ∷ [])
          (one_call keeper c.args.desk.now c.begin.new.self first.command first.answer (c.in_ok-ticket.ensures m is)) made.2,
    )

pub returns-then-lasted : goal.returns-then-lasted
returns-then-lasted g c = λ m is.
    let keeper = desk_keeper g.A.Records.keeper in
    let t = c.in_ok-ticket.ticket in
    let b = c.in_ok-ticket.budget in
    let first = begins c.args.officer.now c.args.moment m t b in
    let held : c.in_ok-lasted.lasted ≡ true = grind (arith, common_steps) in
    let Made : ℕ → Bool → Type 0 = λ n l.
    MakesTurns keeper g.P.Patience.asked c.begin.new.self n b c.args.patience.now (Ok l) c.make_turns.new.patience
    c.make_turns.new.desk in
    let made = subst (λ l. Made t l) held (subst (λ n. Made n c.in_ok-lasted.lasted) c.from.ensures c.in_ok-lasted.ensures) in (
      first_calls c.args.officer.now c.args.moment m t b made.0.made made.0.last,
      (b, made.0, made.1, refl),
      calls_on keeper c.args.desk.now c.begin.new.self c.make_turns.new.desk
          (first ∷ []) (turns t made.0.made made.0.last ∷ [])
          (one_call keeper c.args.desk.now c.begin.new.self first.command first.answer (c.in_ok-ticket.ensures m is)) made.2,
    )

pub returns-else-lasted : goal.returns-else-lasted
returns-else-lasted g c = λ m is.
    let keeper = desk_keeper g.A.Records.keeper in
    let t = c.in_ok-ticket.ticket in
    let b = c.in_ok-ticket.budget in
    let first = begins c.args.officer.now c.args.moment m t b in
    let off : c.in_ok-lasted.lasted ≡ false = grind (arith, common_steps) in
    let Made : ℕ → Bool → Type 0 = λ n l.
    MakesTurns keeper g.P.Patience.asked c.begin.new.self n b c.args.patience.now (Ok l) c.make_turns.new.patience
    c.make_turns.new.desk in
    let made = subst (λ l. Made t l) off (subst (λ n. Made n c.in_ok-lasted.lasted) c.from.ensures c.in_ok-lasted.ensures) in (
      first_calls c.args.officer.now c.args.moment m t b made.1.made made.1.last,
      (t, (b, made.0, made.1, made.2, refl)),
      calls_on keeper c.args.desk.now c.begin.new.self c.make_turns.new.desk
          (first ∷ []) (turns t made.1.made made.1.last ∷ [])
          (one_call keeper c.args.desk.now c.begin.new.self first.command first.answer (c.in_ok-ticket.ensures m is)) made.3,
    )
