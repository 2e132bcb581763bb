use Rattle.std.proofs.Common.{◌≡◌, ◌∙◌, length, sym, ap, subst, arith, get_or, add-one}
use Rattle.std.proofs.lemmas.Bool.{false≢true}
use Rattle.filing_image.specs.declared.instruction.Operation.TheVariants.{PushTrue}
use Rattle.filing_table.specs.Machine.{step}
use Rattle.filing_machine.specs.StateViews.{state, run_at, IsModest}
use Rattle.filing_machine.specs.Runs.{IsOnRun, Snapshot, run_view, IsModestAt}
use Rattle.filing_machine.proofs.Ready.{Ready, ready, one_more, modest_here}
use Rattle.filing_machine.proofs.machine.Machine.step.Given.{Over}
use Rattle.filing_machine.proofs.machine.Machine.step.Goals.{After-self, In_ok-self-inside}
use Rattle.filing_machine.proofs.machine.Machine.step.Goals as goal

-- the machine before the step
abbrev before : (g : Over) → After-self g → Snapshot
before g c = record { at = c.self.inside.at; progress = c.self.inside.progress; steps = c.self.inside.steps }

stands : (g : Over) (c : After-self g) → IsOnRun c.args.program.now (g.C.Case.facts c.args.case.now) (before g c)
stands g c = subst (IsOnRun c.args.program.now (g.C.Case.facts c.args.case.now)) (sym c.self.view_is) c.requires.stands

-- it may make the step
may_step : (g : Over) (c : After-self g) → Ready c.args.program.now (g.C.Case.facts c.args.case.now) (before g c)
may_step g c =
    ready c.args.program.now (g.C.Case.facts c.args.case.now) _ c.image-image.ensures.well
    (rw (← c.self.view_is) at c.requires.running) (stands g c)

-- the code is the program's
code_is : (g : Over) (c : After-self g) → c.code.result.now ≡ c.args.program.now.code
code_is g c = c.code.ensures.value ∙ ap (λ q. q.code) c.image-image.ensures.is

pub offset_bounds-code-self-inside : goal.offset_bounds-code-self-inside
offset_bounds-code-self-inside g c =
    let at = (goal.at.offset_bounds-code-self-inside g c).After-self in
    omega (arith, (may_step g at).within, c.code.type_inv, ap length (code_is g at))

pub bounds-code-self-inside : goal.bounds-code-self-inside
bounds-code-self-inside g c =
    let at = (goal.at.bounds-code-self-inside g c).After-self in
    rw (code_is g at) (may_step g at).within

pub act-requires-clause-place : goal.act-requires-clause-place
act-requires-clause-place g c =
    let at = (goal.at.act-requires-clause-place g c).After-self in
    omega (arith, (may_step g at).within, c.code.ensures.short, ap length (code_is g at))

pub act-requires-clause-sound : goal.act-requires-clause-sound
act-requires-clause-sound g c =
    let at = (goal.at.act-requires-clause-sound g c).After-self in
    rw (code_is g at, c.image-image.ensures.is) (may_step g at).sound

pub act-requires-clause-deep : goal.act-requires-clause-deep
act-requires-clause-deep g c = (may_step g (goal.at.act-requires-clause-deep g c).After-self).deep

pub act-requires-clause-room : goal.act-requires-clause-room
act-requires-clause-room g c = (may_step g (goal.at.act-requires-clause-room g c).After-self).room

pub overflow_add-self : goal.overflow_add-self
overflow_add-self g c =
    let r = may_step g (goal.at.overflow_add-self g c).After-self in
    omega (arith, r.budget, r.small)

-- the run goes on by this step
goes : (g : Over) (c : In_ok-self-inside g)
    → run_at c.in_ok-self-inside.field-0 (state (g.C.Case.facts c.args.case.now) c.act.new.at)
    ≡ step c.args.program.now (g.C.Case.facts c.args.case.now)
    (run_at c.self.inside.progress (state (g.C.Case.facts c.args.case.now) c.self.inside.at))
goes g c =
    let at = (goal.at.In_ok-self-inside g c).After-self in
    sym (rw (code_is g at, c.image-image.ensures.is) at c.in_ok-self-inside.ensures.does) ∙ sym (may_step g at).to

pub returns-clause-stands : goal.returns-clause-stands
returns-clause-stands g c =
    let p = c.args.program.now in
    let f = g.C.Case.facts c.args.case.now in
    let at = goal.at.returns-clause-stands g c in
    let on = stands g at.After-self in
    record {
      on_run = rw add-one (goes g at.In_ok-self-inside ∙ ap (step p f) on.on_run);
      going = one_more p f c.self.inside.steps (state f c.self.inside.at) (may_step g at.After-self).here on.going;
      in_case = c.in_ok-self-inside.ensures.in_case;
    }

pub returns-clause-step : goal.returns-clause-step
returns-clause-step g c =
    let f = g.C.Case.facts c.args.case.now in
    goes g (goal.at.returns-clause-step g c).In_ok-self-inside
    ∙ ap (λ (m : Snapshot). step c.args.program.now f (run_view f m)) c.self.view_is

pub returns-clause-budget : goal.returns-clause-budget
returns-clause-budget g c = (may_step g (goal.at.returns-clause-budget g c).After-self).budget

pub returns-in_err-self-inside-clause-budget : goal.returns-in_err-self-inside-clause-budget
returns-in_err-self-inside-clause-budget g c =
    let r = may_step g (goal.at.returns-in_err-self-inside-clause-budget g c).After-self in
    omega (arith, r.budget)

pub returns-in_err-self-inside-clause-modest : goal.returns-in_err-self-inside-clause-modest
returns-in_err-self-inside-clause-modest g c = λ modest.
    let p = c.args.program.now in
    let at = (goal.at.returns-in_err-self-inside-clause-modest g c).After-self in
    let there : IsModestAt p c.self.inside.at.place = subst (IsModestAt p) (sym (ap (λ (m : Snapshot). m.at.place) c.self.view_is)) modest in
    let here : IsModest (get_or p.code c.self.inside.at.place PushTrue) = modest_here p c.self.inside.at.place (may_step g at).within there in
    absurd (false≢true (c.in_err-self-inside.ensures.modest (rw (code_is g at) here)))
