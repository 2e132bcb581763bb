use Rattle.std.proofs.Common.{◌≡◌, ◌≤◌, ◌+◌, ℕ, suc, [], ◌∷◌, Bool, true, false, Result, Ok, Err, refl, sym, subst, ◌∙◌, arith}
use Rattle.std.proofs.lemmas.Bool.{false≢true}
use Rattle.std.proofs.lemmas.Grind.{common_steps}
use Rattle.desk_commands.specs.CallAnswers.{answer_of_turn}
use Rattle.desk_commands.specs.Faults.{refused_by}
use Rattle.desk_commands.specs.Standing.{turn}
use Rattle.desk_commands.specs.declared.fault.DeskFault.{DeskFault}
use Rattle.filing_desk.specs.Standing.{desk_keeper}
use Rattle.filing_desk.specs.Deliveries.{MadeTurns, MakesTurns}
use Rattle.filing_desk.proofs.CallLemmas.{one_call, passed_on}
use Rattle.filing_desk.proofs.TurnLemmas.{turns_on, turns_told, turns_whole}
use Rattle.filing_desk.proofs.turns.make_turns.Goals as goal

pub turns-init : goal.turns-init
turns-init g c =
    let keeper = desk_keeper g.A.Records.keeper in
    record {
      within = grind (arith, common_steps);
      asks = (0, grind (arith, common_steps), refl);
      follows = one_call keeper c.args.desk.now c.turn.new.self (turn c.args.ticket c.min-made.result) (answer_of_turn (Ok c.in_ok-turn.turn))
          c.in_ok-turn.ensures;
    }

-- the patience was asked, and lasted
pub turns-preserved : goal.turns-preserved
turns-preserved g c =
    let keeper = desk_keeper g.A.Records.keeper in
    let l = c.turns in
    let so_far = l.invariant.asks in
    let lasted : c.is_over.result ≡ false = grind (arith, common_steps) in
    let Asked : Bool → Type 0 = λ b. g.P.Patience.asked l.patience b c.is_over.new.self in
    record {
      within = grind (arith, common_steps);
      asks = (suc so_far.0, omega (arith, so_far.1), (l.patience, so_far.2, subst Asked lasted c.is_over.ensures));
      follows = turns_on keeper c.args.desk.now l.desk c.turn-in-turns.new.self c.args.ticket l.made 1 (answer_of_turn (Ok l.turn))
          (answer_of_turn (Ok c.in_ok-turn-2.turn)) (turns_told l.turn) l.invariant.follows c.in_ok-turn-2.ensures;
    }

pub returns-in_err-turn : goal.returns-in_err-turn
returns-in_err-turn g c =
    let keeper = desk_keeper g.A.Records.keeper in
    let out = c.from_residual in
    let fault = c.in_err-turn.field-0.0 in
    let Told : Result Bool DeskFault → Type 0 = λ r.
    MakesTurns keeper g.P.Patience.asked c.args.desk.now c.args.ticket c.args.budget c.args.patience.now r c.args.patience.now c.turn.new.self in
    subst Told (sym (passed_on out.result fault out.ensures.0 out.ensures.1)) (
      record {
        made = c.min-made.result;
        last = refused_by fault;
        times = 0;
        within = grind (arith, common_steps);
        between = grind (arith, common_steps);
        lasts = refl;
      },
      refl,
      one_call keeper c.args.desk.now c.turn.new.self (turn c.args.ticket c.min-made.result) (refused_by fault) c.in_err-turn.ensures,
    )

pub returns-then-is_over : goal.returns-then-is_over
returns-then-is_over g c =
    let l = c.turns in
    let over : c.is_over.result ≡ true = grind (arith, common_steps) in
    let Asked : Bool → Type 0 = λ b. g.P.Patience.asked l.patience b c.is_over.new.self in (
      l.patience,
      record {
        made = l.made;
        last = answer_of_turn (Ok l.turn);
        times = l.invariant.asks.0;
        within = l.invariant.within;
        between = l.invariant.asks.1;
        lasts = l.invariant.asks.2;
      },
      subst Asked over c.is_over.ensures,
      l.invariant.follows,
    )

pub returns-in_err-turn-2 : goal.returns-in_err-turn-2
returns-in_err-turn-2 g c =
    let keeper = desk_keeper g.A.Records.keeper in
    let l = c.turns in
    let out = c.from_residual-in_err-turn-2 in
    let fault = c.in_err-turn-2.field-0.0 in
    let lasted : c.is_over.result ≡ false = grind (arith, common_steps) in
    let Asked : Bool → Type 0 = λ b. g.P.Patience.asked l.patience b c.is_over.new.self in
    let Told : Result Bool DeskFault → Type 0 = λ r.
    MakesTurns keeper g.P.Patience.asked c.args.desk.now c.args.ticket c.args.budget c.args.patience.now r c.is_over.new.self
    c.turn-in-turns.new.self in
    subst Told (sym (passed_on out.result fault out.ensures.0 out.ensures.1)) (
      record {
        made = l.made + 1;
        last = refused_by fault;
        times = suc l.invariant.asks.0;
        within = grind (arith, common_steps);
        between = omega (arith, l.invariant.asks.1);
        lasts = (l.patience, l.invariant.asks.2, subst Asked lasted c.is_over.ensures);
      },
      refl,
      turns_on keeper c.args.desk.now l.desk c.turn-in-turns.new.self c.args.ticket l.made 1 (answer_of_turn (Ok l.turn))
          (refused_by fault) (turns_told l.turn) l.invariant.follows c.in_err-turn-2.ensures,
    )

pub returns-else-not-turn : goal.returns-else-not-turn
returns-else-not-turn g c =
    let l = c.turns in
    let ended : l.turn.ended ≡ true = grind (arith, common_steps) in (
      record {
        made = l.made;
        last = answer_of_turn (Ok l.turn);
        times = l.invariant.asks.0;
        within = l.invariant.within;
        between = l.invariant.asks.1;
        lasts = l.invariant.asks.2;
      },
      turns_whole l.turn l.made c.args.budget l.invariant.within (λ off. absurd (false≢true (sym off ∙ ended))),
      l.invariant.follows,
    )

pub returns-after-turns : goal.returns-after-turns
returns-after-turns g c =
    let l = c.turns in
    let most : c.args.budget ≤ l.made = grind (arith, common_steps) in (
      record {
        made = l.made;
        last = answer_of_turn (Ok l.turn);
        times = l.invariant.asks.0;
        within = l.invariant.within;
        between = l.invariant.asks.1;
        lasts = l.invariant.asks.2;
      },
      turns_whole l.turn l.made c.args.budget l.invariant.within (λ off. most),
      l.invariant.follows,
    )
