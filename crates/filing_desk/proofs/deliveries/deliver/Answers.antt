use Rattle.std.proofs.Common.{◌≡◌, ℕ, List, [], ◌∷◌, ◌++◌, map, Option, Some, None, Result, Ok, refl, sym, ◌∙◌, subst, inl, inr}
use Rattle.sieve_meaning.specs.declared.run_fault.RunFault.{RunFault}
use Rattle.record_archive.specs.Calls.{Keeper}
use Rattle.record_archive.specs.Lines.{line_view}
use Rattle.desk_commands.specs.Calls.{Calls}
use Rattle.desk_commands.specs.CallAnswers.{answer_of_capture}
use Rattle.desk_commands.specs.Faults.{refused_by}
use Rattle.desk_commands.specs.Standing.{Standing, finish, flight_of}
use Rattle.desk_commands.specs.declared.fault.DeskFault.{DeskFault}
use Rattle.filing_desk.specs.Standing.{desk_keeper}
use Rattle.filing_desk.specs.Deliveries.{BeginsCapture, Call, Delivers, TellsFault}
use Rattle.filing_desk.specs.declared.deliveries.Delivery.{Delivery}
use Rattle.filing_desk.proofs.CallLemmas.{calls_on, one_call, passed_on}
use Rattle.filing_desk.proofs.HeedLemmas.{heeds_captured, heeds_given_up, keeps_office}
use Rattle.filing_desk.proofs.deliveries.deliver.Goals as goal

pub returns-in_err-ticket : goal.returns-in_err-ticket
returns-in_err-ticket g c = λ m is.
    let out = c.from_residual in
    let fault = c.in_err-ticket.field-0.0 in
    let first = c.in_err-ticket.ensures m is in
    let Told : Result Delivery DeskFault → Type 0 = λ r.
    Delivers (desk_keeper g.A.Records.keeper) g.P.Patience.asked c.args.desk.now c.args.officer.now c.args.moment
    m c.args.on_fault c.args.patience.now r c.begin_and_run.new.patience c.begin_and_run.new.desk in
    subst Told (sym (passed_on out.result fault out.ensures.0 out.ensures.1)) (first.0, inl first.1, first.2, tt)

-- the patience was over
pub returns-in_default : goal.returns-in_default
returns-in_default g c = λ m is.
    let keeper = desk_keeper g.A.Records.keeper in
    let new = c.begin_and_run.new.desk in
    let Begins : Option ℕ → Type 0 = λ o.
    BeginsCapture keeper g.P.Patience.asked c.args.desk.now c.args.officer.now c.args.moment m c.args.patience.now (Ok o)
    c.begin_and_run.new.patience new in
    let (calls, first, follows) = subst Begins c.in_default.is (c.in_ok-ticket.ensures m is) in
    let (t, cut) = first in
    let (b, mid, run, over, same) = cut in (
      calls,
      (t, (b, mid, run, over, same)),
      follows,
      keeps_office keeper c.args.desk.now c.args.officer.now c.args.moment m calls t b run.made run.last new same follows,
    )

pub returns-in_err-fault : goal.returns-in_err-fault
returns-in_err-fault g c = λ m is.
    let out = c.from_residual-in_err-fault in
    let fault = c.in_err-fault.field-0.0 in
    let first = subst (λ (o : Option ℕ). BeginsCapture (desk_keeper g.A.Records.keeper) g.P.Patience.asked c.args.desk.now c.args.officer.now
    c.args.moment m c.args.patience.now (Ok o) c.begin_and_run.new.patience c.begin_and_run.new.desk) c.in-Some.is
    (c.in_ok-ticket.ensures m is) in
    let Told : Result Delivery DeskFault → Type 0 = λ r.
    Delivers (desk_keeper g.A.Records.keeper) g.P.Patience.asked c.args.desk.now c.args.officer.now c.args.moment
    m c.args.on_fault c.args.patience.now r c.begin_and_run.new.patience c.begin_and_run.new.desk in
    subst Told (sym (passed_on out.result fault out.ensures.0 out.ensures.1)) (
      first.0,
      inr (inr (c.in_err-fault.ensures.refused, (c.in-Some.ticket, first.1))),
      first.2,
      tt,
    )

pub returns-in_err-capture : goal.returns-in_err-capture
returns-in_err-capture g c = λ m is.
    let keeper = desk_keeper g.A.Records.keeper in
    let out = c.from_residual-in_err-capture in
    let fault = c.in_err-capture.field-0.0 in
    let first = subst (λ (o : Option ℕ). BeginsCapture (desk_keeper g.A.Records.keeper) g.P.Patience.asked c.args.desk.now c.args.officer.now
    c.args.moment m c.args.patience.now (Ok o) c.begin_and_run.new.patience c.begin_and_run.new.desk) c.in-Some.is
    (c.in_ok-ticket.ensures m is) in
    let t = c.in-Some.ticket in
    let mid = c.begin_and_run.new.desk in
    let last : List Call = record { command = finish t; answer = refused_by fault } ∷ [] in
    let Told : Result Delivery DeskFault → Type 0 = λ r.
    Delivers keeper g.P.Patience.asked c.args.desk.now c.args.officer.now c.args.moment m c.args.on_fault c.args.patience.now r
    c.begin_and_run.new.patience c.finish.new.self in
    let Finishes : ℕ → Type 0 = λ n. Calls keeper mid (finish n) (refused_by fault) c.finish.new.self in
    subst Told (sym (passed_on out.result fault out.ensures.0 out.ensures.1)) (
      first.0 ++ last,
      inr (inl (t, first.0, first.1, refl)),
      calls_on keeper c.args.desk.now mid c.finish.new.self first.0 last first.2
          (one_call keeper mid c.finish.new.self (finish t) (refused_by fault)
          (subst Finishes c.from.ensures c.in_err-capture.ensures)),
      tt,
    )

-- what is reported of the capture of a ticket in each state that the desk represents
abbrev TellsAll : {D : Type 0} → Keeper D Standing → (desk : D) (t : ℕ) → Option RunFault → Type 0
TellsAll keeper desk t told = (z : Standing) → keeper.stands desk z → TellsFault (flight_of t z.flights) told

pub returns-in-Some-2 : goal.returns-in-Some-2
returns-in-Some-2 g c = λ m is.
    let keeper = desk_keeper g.A.Records.keeper in
    let (calls, whole, follows) = subst (λ (o : Option ℕ). BeginsCapture (desk_keeper g.A.Records.keeper)
    g.P.Patience.asked c.args.desk.now c.args.officer.now c.args.moment m c.args.patience.now (Ok o)
    c.begin_and_run.new.patience c.begin_and_run.new.desk) c.in-Some.is
    (c.in_ok-ticket.ensures m is) in
    let (b, run, all, same) = whole in
    let t = c.in-Some.ticket in
    let mid = c.begin_and_run.new.desk in
    let Tells : Option RunFault → Type 0 = λ f. TellsAll keeper mid t f in (
      calls,
      (t, (b, run, all, same)),
      follows,
      heeds_given_up keeper c.args.desk.now c.args.officer.now c.args.moment m c.args.on_fault
          calls t b run.made run.last c.in-Some-2.fault mid same follows
          (λ e. subst Tells c.in-Some-2.is (c.in_ok-fault.ensures.told e))
          (λ e. sym c.in-Some-2.is ∙ c.in_ok-fault.ensures.none e),
    )

pub returns : goal.returns
returns g c = λ m is.
    let keeper = desk_keeper g.A.Records.keeper in
    let first = subst (λ (o : Option ℕ). BeginsCapture (desk_keeper g.A.Records.keeper) g.P.Patience.asked c.args.desk.now c.args.officer.now
    c.args.moment m c.args.patience.now (Ok o) c.begin_and_run.new.patience c.begin_and_run.new.desk) c.in-Some.is
    (c.in_ok-ticket.ensures m is) in
    let t = c.in-Some.ticket in
    let mid = c.begin_and_run.new.desk in
    let capture = c.in_ok-capture.capture in
    let last : List Call = record { command = finish t; answer = answer_of_capture (Ok capture) } ∷ [] in
    let Tells : Option RunFault → Type 0 = λ f. TellsAll keeper mid t f in
    let Finishes : ℕ → Type 0 = λ n. Calls keeper mid (finish n) (answer_of_capture (Ok capture)) c.finish.new.self in
    let call = subst Finishes c.from.ensures c.in_ok-capture.ensures in (
      first.0 ++ last,
      (t, first.0, first.1, refl),
      calls_on keeper c.args.desk.now mid c.finish.new.self first.0 last first.2
          (one_call keeper mid c.finish.new.self (finish t) (answer_of_capture (Ok capture)) call),
      heeds_captured keeper c.args.desk.now c.args.officer.now c.args.moment m c.args.on_fault first.0 t
          capture (map line_view capture.lines.items) mid c.finish.new.self first.2
          (λ e. subst Tells c.in_default-2.is (c.in_ok-fault.ensures.told e)) call,
    )
