-- What a refusal leaves as it was, and that a whole capture gives its ticket up.
use Rattle.std.proofs.Common.{◌≡◌, ◌≢◌, ◌+◌, ◌<◌, ◌∷◌, [], ℕ, List, arith, refl, ap, ◌∙◌, sym, subst, inl, inr, Bool, true, false, Option, Some, None}
use Rattle.std.specs.Prelude.{if◌then◌else◌, nat_le}
use Rattle.record_archive.specs.Archive.{Line}
use Rattle.sieve_meaning.specs.declared.run_fault.RunFault.{RunFault}
use Rattle.desk_commands.specs.Answers.{Answer, running, ended, captured, refused}
use Rattle.desk_commands.specs.Office.{Office, PlainCommand, OfficeStep, with_archive}
use Rattle.desk_commands.specs.Pinning.{BeginState}
use Rattle.desk_commands.specs.Standing.{Command, plain, begin, turn, finish, Flight, Standing, Step, TurnStep}
use Rattle.desk_commands.specs.Standing.{FinishStep, FinishWhole, flight_of, opening, turn_answer, without}
use Rattle.promises.specs.Runs.{IsReachedState, Steps}
use Rattle.promises.specs.RefusedCalls.{KeepsSteps}
use Rattle.promises.proofs.Sources.{AreInOrder, step_in_order}
use Rattle.promises.proofs.TicketLemmas.{none_above, of_without}

one_number : (m n : ℕ) (at on : Option ℕ) → refused m at ≡ refused n on → m ≡ n
one_number m n at on e = cc

turned_refused : (f : Flight) (k n : ℕ) (at : Option ℕ) → refused n at ≡ turn_answer f k → ⊥
turned_refused f k n at e = go (nat_le f.run_length k) e
  where
    go : (b : Bool) → refused n at ≡ (if b then ended f.run_length else running k) → ⊥
    go true is = cc
    go false is = cc

-- ---- refusals

office_unchanged : (s : Office) (c : PlainCommand) (n : ℕ) (at : Option ℕ) (new : Office) → OfficeStep s c (refused n at) new → new ≡ s
office_unchanged s c n at new (inl h) = h.0
office_unchanged s c n at new (inr h) = h.3

turn_unchanged : (s : Standing) (t k : ℕ) (f : Option Flight) (n : ℕ) (at : Option ℕ) (new : Standing) → n ≢ 99
    → TurnStep s t k f (refused n at) new → new ≡ s
turn_unchanged s t k None n at new other h = h.1
turn_unchanged s t k (Some f) n at new other (inl h) = absurd (turned_refused f (f.granted + k) n at h.0)
turn_unchanged s t k (Some f) n at new other (inr h) = absurd (other (one_number n 99 at None h.0))

whole_unchanged : (s : Standing) (t : ℕ) (early : Bool) (at_begin : BeginState) (n : ℕ) (at : Option ℕ) (new : Standing)
    → FinishWhole s t early at_begin (refused n at) new → new ≡ s
whole_unchanged s t true at_begin n at new h = h.1
whole_unchanged s t false at_begin n at new (inl h) = h.2 ∙ ap (λ x. record s { office = with_archive s.office x }) h.1.2
whole_unchanged s t false at_begin n at new (inr h) = h.3

finish_unchanged : (s : Standing) (t : ℕ) (f : Option Flight) (n : ℕ) (at : Option ℕ) (new : Standing) → FinishStep s t f (refused n at) new → new ≡ s
finish_unchanged s t None n at new h = h.1
finish_unchanged s t (Some f) n at new h = whole_unchanged s t _ f.at_begin n at new h

pub refused_unchanged : (s : Standing) (c : Command) (n : ℕ) (at : Option ℕ) (new : Standing) → Step s c (refused n at) new → n ≢ 99 → new ≡ s
unfolding Step
refused_unchanged s (plain c) n at new h other = h.2 ∙ ap (λ x. record s { office = x }) (office_unchanged s.office c n at h.0 h.1)
refused_unchanged s (begin officer moment message) n at new h other = h.0
refused_unchanged s (turn t k) n at new h other = turn_unchanged s t k (flight_of t s.flights) n at new other h
refused_unchanged s (finish t) n at new h other = finish_unchanged s t (flight_of t s.flights) n at new h

-- after 99 a TURN keeps the steps that it made
turn_keeps : (s : Standing) (t k : ℕ) (f : Option Flight) (at : Option ℕ) (new : Standing) → TurnStep s t k f (refused 99 at) new
    → KeepsSteps s (turn t k) new
turn_keeps s t k None at new h = inl h.1
turn_keeps s t k (Some f) at new (inl h) = absurd (turned_refused f (f.granted + k) 99 at h.0)
turn_keeps s t k (Some f) at new (inr h) =
    inr (record { ticket = t; count = k; made = h.1.0; command = refl; fewer = h.1.1.within; leaves = h.1.2 })

pub steps_kept : (s : Standing) (c : Command) (at : Option ℕ) (new : Standing) → Step s c (refused 99 at) new → KeepsSteps s c new
unfolding Step
steps_kept s (plain c) at new h = inl (h.2 ∙ ap (λ x. record s { office = x }) (office_unchanged s.office c 99 at h.0 h.1))
steps_kept s (begin officer moment message) at new h = inl h.0
steps_kept s (turn t k) at new h = turn_keeps s t k (flight_of t s.flights) at new h
steps_kept s (finish t) at new h = inl (finish_unchanged s t (flight_of t s.flights) 99 at new h)

-- ---- tickets that are given up

run_in_order : (s : Standing) (cs : List Command) (answers : List Answer) (new : Standing) → Steps s cs answers new → AreInOrder s → AreInOrder new
run_in_order s [] [] new h k = let P : Standing → Type 0 = AreInOrder in subst P (sym h) k
run_in_order s (c ∷ cs) (a ∷ answers) new h k = run_in_order h.0 cs answers new h.2 (step_in_order s c a h.0 h.1 k).0
run_in_order s [] (a ∷ answers) new h k = absurd h
run_in_order s (c ∷ cs) [] new h k = absurd h

whole_leaves : (s : Standing) (t : ℕ) (early : Bool) (at_begin : BeginState) (fault : Option RunFault)
    (lines : List Line) (new : Standing) → FinishWhole s t early at_begin (captured fault lines) new
    → new.flights ≡ without t s.flights
whole_leaves s t true at_begin fault lines new h = absurd (let other : captured fault lines ≡ refused 92 None = h.0 in cc)
whole_leaves s t false at_begin fault lines new (inl h) = ap (λ (x : Standing). x.flights) h.2
whole_leaves s t false at_begin fault lines new (inr h) = absurd (let other : captured fault lines ≡ refused h.0 None = h.2 in cc)

finish_leaves : (s : Standing) (t : ℕ) (f : Option Flight) (fault : Option RunFault) (lines : List Line)
    (new : Standing) → FinishStep s t f (captured fault lines) new → new.flights ≡ without t s.flights
finish_leaves s t None fault lines new h = absurd (let other : captured fault lines ≡ refused 91 None = h.0 in cc)
finish_leaves s t (Some f) fault lines new h = whole_leaves s t _ f.at_begin fault lines new h

filed_leaves : (s : Standing) (t : ℕ) (fault : Option RunFault) (lines : List Line) (new : Standing)
    → Step s (finish t) (captured fault lines) new → new.flights ≡ without t s.flights
unfolding Step
filed_leaves s t fault lines new h = finish_leaves s t (flight_of t s.flights) fault lines new h

reached_in_order : (s : Standing) → IsReachedState s → AreInOrder s
reached_in_order s reached = run_in_order (opening reached.archive) reached.commands reached.answers s reached.run (omega arith)

-- no capture in flight has a ticket that was not given yet
pub not_given : (s : Standing) (t : ℕ) → IsReachedState s → s.last < t → flight_of t s.flights ≡ None
not_given s t reached later = none_above 0 s.last t s.flights (reached_in_order s reached) later

pub given_up : (s : Standing) (t : ℕ) (fault : Option RunFault) (lines : List Line) (new : Standing) → IsReachedState s
    → Step s (finish t) (captured fault lines) new → flight_of t new.flights ≡ None
given_up s t fault lines new reached h =
    ap (flight_of t) (filed_leaves s t fault lines new h) ∙ of_without 0 s.last t s.flights (reached_in_order s reached)
