-- The capture that a delivery begins, after its BEGIN and TURN.
use Rattle.std.proofs.Common.{◌≡◌, ◌+◌, ◌++◌, ℕ, List, [], ◌∷◌, Bool, true, false, Option, Some, None, refl, arith}
use Rattle.std.proofs.Common.{ap, ◌∙◌, sym, subst, inl, inr}
use Rattle.std.specs.Prelude.{◌==◌}
use Rattle.std.specs.Option.{option_map}
use Rattle.std.proofs.lemmas.Bool.Decides.{nat_tests}
use Rattle.sieve_meaning.specs.declared.run_fault.RunFault.{RunFault}
use Rattle.record_archive.specs.Calls.{Keeper}
use Rattle.desk_commands.specs.Answers.{Answer}
use Rattle.desk_commands.specs.Pinning.{BeginState}
use Rattle.desk_commands.specs.Standing.{Begins, Flight, Standing, Step, TurnStep, begin_state, flight_of, grant, with_turns}
use Rattle.filing_desk.specs.Deliveries.{Goes, HasFault, IsFaulty, TellsFault, first_calls}
use Rattle.filing_desk.proofs.FaultyRunLemmas.{fault_answered, told_of}

-- a capture after it was granted turns
abbrev pub granted_more : ℕ → Flight → Flight
granted_more k f = record f { granted = f.granted + k }

pub of_grant : (t k : ℕ) (fs : List Flight) → flight_of t (grant t k fs) ≡ option_map (granted_more k) (flight_of t fs)
of_grant t k [] = refl
of_grant t k (f ∷ fs) = let rest = of_grant t k fs in grind (arith, nat_tests, rest)

-- the last capture is the first of its ticket where no other has it
of_last : (t : ℕ) (fs : List Flight) (f : Flight) → f.ticket ≡ t → flight_of t fs ≡ None → flight_of t (fs ++ f ∷ []) ≡ Some f
of_last t [] f same e = grind (arith, nat_tests, same)
of_last t (x ∷ fs) f same e = go (x.ticket == t) refl (of_last t fs f same)
  where
    go : (b : Bool) → (x.ticket == t) ≡ b → (flight_of t fs ≡ None → flight_of t (fs ++ f ∷ []) ≡ Some f)
        → flight_of t (x ∷ fs ++ f ∷ []) ≡ Some f
    go true is rest = absurd (let some : Some x ≡ None = rw is at e in cc)
    go false is rest = rw is (rest (rw is at e))

-- the fault that is reported of a capture, however many turns it was granted
told_granted : (k : ℕ) (f : Flight) (found : Option Flight) (fault : RunFault) → found ≡ Some (granted_more k f)
    → TellsFault found (Some fault) → HasFault f.at_begin (Some fault)
told_granted k f found fault e h =
    let Told : Option Flight → Type 0 = λ x. TellsFault x (Some fault) in
    told_of (granted_more k f) fault (subst Told e h)

module _ (s to : Standing) (officer : List ℕ) (moment : ℕ) (message : List ℕ) (t b made : ℕ) (turned : Answer) where
  -- BEGIN gives the next ticket
  pub next_ticket : Goes s (first_calls officer moment message t b made turned) to → t ≡ s.last + 1
  unfolding Step
  next_ticket (mid, begins, rest) = begins.ticket

  turn_office : (mid new : Standing) (found : Option Flight) → TurnStep mid t made found turned new → new.office ≡ mid.office
  turn_office mid new None step = ap (λ (z : Standing). z.office) step.1
  turn_office mid new (Some f) (inl all) = ap (λ (z : Standing). z.office) all.1
  turn_office mid new (Some f) (inr some) = ap (λ (z : Standing). z.office) some.1.2

  -- BEGIN and turns leave the archive, the scripts and the programs as they were
  pub office_kept : Goes s (first_calls officer moment message t b made turned) to → to.office ≡ s.office
  unfolding Step
  office_kept (mid, begins, (last, step, is)) =
      ap (λ (z : Standing). z.office) is ∙ turn_office mid last (flight_of t mid.flights) step
      ∙ ap (λ (z : Standing). z.office) begins.leaves

  -- turns are granted to the capture that was begun
  turned_of : (mid : Standing) (f : Flight) → flight_of t mid.flights ≡ Some f
      → TurnStep mid t made (flight_of t mid.flights) turned to → (k : ℕ) × (flight_of t to.flights ≡ Some (granted_more k f))
  turned_of mid f e step =
      let Steps : Option Flight → Type 0 = λ x. TurnStep mid t made x turned to in
      elim (subst Steps e step) [ inl all ↦ after made all.1 | inr some ↦ after some.1.0 some.1.2 ]
    where
      after : (k : ℕ) → to ≡ with_turns mid t k → (n : ℕ) × (flight_of t to.flights ≡ Some (granted_more n f))
      after k is = (
        k,
        ap (λ (z : Standing). flight_of t z.flights) is ∙ of_grant t k mid.flights ∙ ap (option_map (granted_more k)) e,
      )

  begun_fault : (mid : Standing) (fault : RunFault) → flight_of (s.last + 1) s.flights ≡ None
      → Begins s officer moment message t b mid → TurnStep mid t made (flight_of t mid.flights) turned to
      → TellsFault (flight_of t to.flights) (Some fault) → HasFault (begin_state s.office officer moment message) (Some fault)
  begun_fault mid fault free begins step told =
      let f = begins.flight in
      let is : f.ticket ≡ t = begins.next ∙ sym begins.ticket in
      let none : flight_of t s.flights ≡ None = ap (λ n. flight_of n s.flights) begins.ticket ∙ free in
      let last : flight_of t mid.flights ≡ Some f =
      ap (λ (z : Standing). flight_of t z.flights) begins.leaves ∙ of_last t s.flights f is none in
      let found = turned_of mid f last step in
      let Has : BeginState → Type 0 = λ x. HasFault x (Some fault) in
      subst Has begins.at_begin (told_granted found.0 f (flight_of t to.flights) fault found.1 told)

  -- where no capture had the ticket, the fault that is reported is the one of the capture that was begun
  pub fault_begun : (fault : RunFault) → Goes s (first_calls officer moment message t b made turned) to
      → flight_of (s.last + 1) s.flights ≡ None → TellsFault (flight_of t to.flights) (Some fault)
      → HasFault (begin_state s.office officer moment message) (Some fault)
  unfolding Step
  fault_begun fault (mid, begins, (last, step, is)) free told =
      let Turns : Standing → Type 0 = λ z. TurnStep mid t made (flight_of t mid.flights) turned z in
      begun_fault mid fault free begins (subst Turns (sym is) step) told

-- a message whose fault is reported in each state that the desk represents after its BEGIN and TURN
pub is_faulty : {D : Type 0} (keeper : Keeper D Standing) (s to : Standing) (officer : List ℕ) (moment : ℕ)
    (message : List ℕ) (t b made : ℕ) (turned : Answer) (fault : RunFault) (new : D)
    → Goes s (first_calls officer moment message t b made turned) to → keeper.stands new to
    → ((z : Standing) → keeper.stands new z → TellsFault (flight_of t z.flights) (Some fault))
    → IsFaulty keeper s officer moment message fault new
is_faulty keeper s to officer moment message t b made turned fault new goes there told =
    let next : t ≡ s.last + 1 = next_ticket s to officer moment message t b made turned goes in
    let Told : ℕ → Type 0 = λ n. (z : Standing) → keeper.stands new z → TellsFault (flight_of n z.flights) (Some fault) in
    let told_next : Told (s.last + 1) = subst Told next told in
    record {
      answers = λ z after a at step. fault_answered z after (s.last + 1) fault a (told_next z at) step;
      alone = λ free. fault_begun s to officer moment message t b made turned fault goes free (told to there);
    }
