-- Runs of desks, as runs of the states that they represent.
use Rattle.std.proofs.Common.{◌≡◌, ◌++◌, ◌∷◌, [], ℕ, List, Bool, true, false, if◌then◌else◌, take, refl, sym, subst}
use Rattle.record_archive.specs.Calls.{Keeper}
use Rattle.desk_commands.specs.Answers.{Answer}
use Rattle.desk_commands.specs.Calls.{Calls, Leads}
use Rattle.desk_commands.specs.Standing.{Standing, Step}
use Rattle.session_protocol.specs.Laws.{Refines, SureCalls, is_item_of_archive, some_of_archive}
use Rattle.session_protocol.specs.Session.{Item, Call, UnknownCommand, WrongWord, Session, ItemStep, Run, IsServed}
use Rattle.session_protocol.specs.Session.{IsAnswered, IsCutInAnswer, IsCutInEnding}

first_holds : (x y : Bool) → x ≡ true → (if x then true else y) ≡ true
first_holds true y e = refl
first_holds false y e = absurd cc

later_holds : (x y : Bool) → y ≡ true → (if x then true else y) ≡ true
later_holds true y e = refl
later_holds false y e = e

module _ {D : Type 0} (keeper : Keeper D Standing) where
  none_leads : (old new : D) → new ≡ old → (s : Standing) → keeper.stands old s → Leads keeper new (λ to. to ≡ s)
  none_leads old new same s there =
      let P : D → Type 0 = λ d. keeper.stands d s in record { to = s; is_one = refl; there = subst P (sym same) there }

  -- a line that is refused changes nothing
  refused_leads : {R : Type 0} (old new : D) → R × (new ≡ old) → (s : Standing) → keeper.stands old s
      → Leads keeper new (λ to. R × (to ≡ s))
  refused_leads old new step s there =
      let led = none_leads old new step.1 s there in record { to = led.to; is_one = (step.0, led.is_one); there = led.there }

  pub item_refines : (i : Item) (a : Answer) → Refines keeper (λ old. ItemStep (Calls keeper) old i a) (λ s.
      ItemStep Step s i a)
  item_refines (Call c) a old new step ok = (step.was_clean ok, step.leads (λ from_archive. ok))
  item_refines UnknownCommand a old new step ok = (subst keeper.clean step.1 ok, refused_leads old new step)
  item_refines WrongWord a old new step ok = (subst keeper.clean step.1 ok, refused_leads old new step)

  pub run_refines : (items : List Item) (answers : List Answer)
      → Refines keeper (λ old. Run (Calls keeper) old items answers) (λ s. Run Step s items answers)
  run_refines [] [] old new run ok = (subst keeper.clean run ok, none_leads old new run)
  run_refines (i ∷ items) (a ∷ answers) old new run ok =
      let rest = run_refines items answers run.0 new run.2 ok in
      let first = item_refines i a old run.0 run.1 rest.0 in (
        first.0,
        λ s there.
            let mid = first.1 s there in
            let end = rest.1 mid.to mid.there in
            record { to = end.to; is_one = (mid.to, mid.is_one, end.is_one); there = end.there },
      )
  run_refines [] (a ∷ answers) old new run ok = absurd run
  run_refines (i ∷ items) [] old new run ok = absurd run

  item_sure : (i : Item) (a : Answer) (old new : D) → ItemStep (Calls keeper) old i a new
      → (is_item_of_archive i a ≡ true → keeper.clean new) → ItemStep (SureCalls keeper) old i a new
  item_sure (Call c) a old new step sure = (step, sure)
  item_sure UnknownCommand a old new step sure = step
  item_sure WrongWord a old new step sure = step

  pub run_sure : (items : List Item) (answers : List Answer) (old new : D)
      → Run (Calls keeper) old items answers new → (some_of_archive items answers ≡ true → keeper.clean new)
      → Run (SureCalls keeper) old items answers new
  run_sure [] [] old new run sure = run
  run_sure (i ∷ items) (a ∷ answers) old new run sure =
      let here = is_item_of_archive i a in
      let after = some_of_archive items answers in (
        run.0,
        item_sure i a old run.0 run.1 (λ first. (run_refines items answers run.0 new run.2 (sure (first_holds here after first))).0),
        run_sure items answers run.0 new run.2 (λ later. sure (later_holds here after later)),
      )
  run_sure [] (a ∷ answers) old new run sure = absurd run
  run_sure (i ∷ items) [] old new run sure = absurd run

  item_leads : (i : Item) (a : Answer) (old new : D) → ItemStep (SureCalls keeper) old i a new → (s : Standing)
      → keeper.stands old s → Leads keeper new (λ to. ItemStep Step s i a to)
  item_leads (Call c) a old new step s there = step.0.leads step.1 s there
  item_leads UnknownCommand a old new step s there = refused_leads old new step s there
  item_leads WrongWord a old new step s there = refused_leads old new step s there

  pub run_leads : (items : List Item) (answers : List Answer) (old new : D)
      → Run (SureCalls keeper) old items answers new → (s : Standing) → keeper.stands old s
      → Leads keeper new (λ to. Run Step s items answers to)
  run_leads [] [] old new run s there = none_leads old new run s there
  run_leads (i ∷ items) (a ∷ answers) old new run s there =
      let mid = item_leads i a old run.0 run.1 s there in
      let end = run_leads items answers run.0 new run.2 mid.to mid.there in
      record { to = end.to; is_one = (mid.to, mid.is_one, end.is_one); there = end.there }
  run_leads [] (a ∷ answers) old new run s there = absurd run
  run_leads (i ∷ items) [] old new run s there = absurd run

  pub served_refines : (session : Session) (old written : List ℕ)
      → Refines keeper (λ desk. IsServed (Calls keeper) session desk old written) (λ s.
      IsServed Step session s old written)
  served_refines session old written desk new (answers, run, wrote) ok =
      let led = run_refines session.items answers desk new run ok in
      (led.0, λ s there. let l = led.1 s there in record { to = l.to; is_one = (answers, l.is_one, wrote); there = l.there })

  pub answered_refines : (session : Session) (old written : List ℕ)
      → Refines keeper (λ desk. IsAnswered (Calls keeper) session desk old written) (λ s.
      IsAnswered Step session s old written)
  answered_refines session old written desk new (n, answers, run, wrote) ok =
      let led = run_refines (take n session.items) answers desk new run ok in
      (led.0, λ s there. let l = led.1 s there in record { to = l.to; is_one = (n, answers, l.is_one, wrote); there = l.there })

  pub cut_in_answer_refines : (session : Session) (old written : List ℕ)
      → Refines keeper (λ desk. IsCutInAnswer (Calls keeper) session desk old written) (λ s.
      IsCutInAnswer Step session s old written)
  cut_in_answer_refines session old written desk new (n, answers, last, run, wrote) ok =
      let led = run_refines (take n session.items) (answers ++ last ∷ []) desk new run ok in
      (led.0, λ s there. let l = led.1 s there in record { to = l.to; is_one = (n, answers, last, l.is_one, wrote); there = l.there })

  pub cut_in_ending_refines : (session : Session) (old written : List ℕ)
      → Refines keeper (λ desk. IsCutInEnding (Calls keeper) session desk old written) (λ s.
      IsCutInEnding Step session s old written)
  cut_in_ending_refines session old written desk new (answers, run, wrote) ok =
      let led = run_refines session.items answers desk new run ok in
      (led.0, λ s there. let l = led.1 s there in record { to = l.to; is_one = (answers, l.is_one, wrote); there = l.there })
