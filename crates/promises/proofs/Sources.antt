-- Where a capture in flight comes from: it was there before, or it began.
use Rattle.std.proofs.Common.{◌≡◌, ◌≢◌, ◌+◌, ◌<◌, ◌≤◌, [], ◌∷◌, ℕ, List, refl, arith, ap, ◌∙◌, sym, inl, inr, Bool, true, false, Option, Some, None}
use Rattle.std.specs.Prelude.{◌⊎◌, ◌==◌, if◌then◌else◌}
use Rattle.std.specs.Option.{option_map}
use Rattle.std.proofs.lemmas.Bool.Decides.{nat_tests}
use Rattle.record_archive.specs.Archive.{Archive}
use Rattle.desk_commands.specs.Answers.{Answer, begun}
use Rattle.desk_commands.specs.Standing.{Command, begin, Flight, Standing, Step, flight_of, grant, without, opening, begin_state}
use Rattle.promises.specs.Beginnings.{HasBegun}
use Rattle.promises.specs.Runs.{Steps}
use Rattle.promises.specs.Turns.{Grants, AllGrant}
use Rattle.promises.proofs.Changes.{Change, Stays, GrantsOne, GivesOneUp, BeginsOne, step_change}
use Rattle.promises.proofs.TicketLemmas.{AreTickets, granted_more, of_grant, of_grant_other, of_without}
use Rattle.promises.proofs.TicketLemmas.{of_without_other, of_more_old, of_more_new, grant_tickets, without_tickets}
use Rattle.promises.proofs.TicketLemmas.{more_tickets, none_above}
use Rattle.promises.proofs.Verdicts.{some_is}

-- ---- the tickets stay in order

abbrev pub AreInOrder : Standing → Type 0
AreInOrder s = AreTickets 0 s.flights s.last

change_in_order : (s : Standing) (c : Command) (a : Answer) (new : Standing) → Change s c a new → AreInOrder s → AreInOrder new × (s.last ≤ new.last)
change_in_order s c a new (inl h) k = (rw (h.flights, h.last) k, omega (arith, h.last))
change_in_order s c a new (inr (inl h)) k = (rw (h.flights, h.last) (grant_tickets 0 s.last h.ticket h.turns s.flights k), omega (arith, h.last))
change_in_order s c a new (inr (inr (inl h))) k = (rw (h.flights, h.last) (without_tickets 0 s.last h.ticket s.flights k), omega (arith, h.last))
change_in_order s c a new (inr (inr (inr h))) k = (rw (h.flights, h.last) (more_tickets 0 s.last s.flights h.flight k h.next), omega (arith, h.last))

pub step_in_order : (s : Standing) (c : Command) (a : Answer) (new : Standing) → Step s c a new → AreInOrder s → AreInOrder new × (s.last ≤ new.last)
step_in_order s c a new h k = change_in_order s c a new (step_change s c a new h) k

-- ---- one step

-- the capture was there before, and its turns grew by those that the step granted
record IsCarried (s : Standing) (c : Command) (a : Answer) (t : ℕ) (f : Flight) : Type 0 where
  old : Flight
  there : flight_of t s.flights ≡ Some old
  ticket : old.ticket ≡ f.ticket
  at_begin : f.at_begin ≡ old.at_begin
  pinned : old.pinned ≡ f.pinned
  turns : ℕ
  grants : Grants t c a turns
  sum : f.granted ≡ old.granted + turns

-- the step began the capture
record IsBegun (s : Standing) (c : Command) (a : Answer) (t : ℕ) (f : Flight) : Type 0 where
  officer : List ℕ
  moment : ℕ
  message : List ℕ
  command : c ≡ begin officer moment message
  answer : a ≡ begun f.ticket f.pinned.budget
  at_begin : f.at_begin ≡ begin_state s.office officer moment message
  fresh : f.granted ≡ 0
  is_next : t ≡ s.last + 1

abbrev Source : Standing → Command → Answer → (t : ℕ) → Flight → Type 0
Source s c a t f = IsCarried s c a t f ⊎ IsBegun s c a t f

carried : (s : Standing) (c : Command) (a : Answer) (t : ℕ) (f : Flight) → flight_of t s.flights ≡ Some f → Grants t c a 0 → Source s c a t f
carried s c a t f e g = inl (record { old = f; there = e; ticket = refl; at_begin = refl; pinned = refl; turns = 0; grants = g; sum = omega arith })

from_stays : (s : Standing) (c : Command) (a : Answer) (new : Standing) (t : ℕ) (f : Flight) → Stays s c a new
    → flight_of t new.flights ≡ Some f → Source s c a t f
from_stays s c a new t f h e = carried s c a t f (ap (flight_of t) (sym h.flights) ∙ e) (h.grants t)

true_false : true ≡ false → ⊥
true_false e = cc

none_some : (f : Flight) → ◌≡◌ {A = Option Flight} None (Some f) → ⊥
none_some f e = cc

same_number : (m n : ℕ) → (m == n) ≡ true → m ≡ n
same_number m n e = grind (arith, nat_tests, e)

other_number : (m n : ℕ) → (m == n) ≡ false → m ≢ n
other_number m n e same = true_false (let is : (m == n) ≡ true = grind (arith, nat_tests, same) in sym is ∙ e)

from_grant : (s : Standing) (c : Command) (a : Answer) (new : Standing) (t : ℕ) (f : Flight) → GrantsOne s c a new
    → flight_of t new.flights ≡ Some f → Source s c a t f
from_grant s c a new t f h e = go (h.ticket == t) refl (h.grants t)
  where
    go : (b : Bool) → (h.ticket == t) ≡ b → Grants t c a (if b then h.turns else 0) → Source s c a t f
    go true is g =
        let same : h.ticket ≡ t = same_number h.ticket t is in
        let there : flight_of t s.flights ≡ Some h.flight = ap (λ n. flight_of n s.flights) (sym same) ∙ h.there in
        let after : flight_of t new.flights ≡ Some (granted_more h.turns h.flight) =
        ap (flight_of t) (h.flights ∙ ap (λ n. grant n h.turns s.flights) same) ∙ of_grant t h.turns s.flights
        ∙ ap (option_map (granted_more h.turns)) there in
        let more : f ≡ granted_more h.turns h.flight = some_is f (granted_more h.turns h.flight) (sym e ∙ after) in
        inl (record {
          old = h.flight;
          there = there;
          ticket = ap (λ (x : Flight). x.ticket) (sym more);
          at_begin = ap (λ (x : Flight). x.at_begin) more;
          pinned = ap (λ (x : Flight). x.pinned) (sym more);
          turns = h.turns;
          grants = g;
          sum = ap (λ (x : Flight). x.granted) more;
        })
    go false is g =
        carried s c a t f (sym (ap (flight_of t) h.flights ∙ of_grant_other t h.ticket h.turns s.flights (other_number h.ticket t is)) ∙ e) g

from_giving_up : (s : Standing) (c : Command) (a : Answer) (new : Standing) (t : ℕ) (f : Flight) → AreInOrder s
    → GivesOneUp s c a new → flight_of t new.flights ≡ Some f → Source s c a t f
from_giving_up s c a new t f k h e = go (h.ticket == t) refl
  where
    go : (b : Bool) → (h.ticket == t) ≡ b → Source s c a t f
    go true is =
        let gone : flight_of t new.flights ≡ None =
        ap (flight_of t) (h.flights ∙ ap (λ n. without n s.flights) (same_number h.ticket t is))
        ∙ of_without 0 s.last t s.flights k in
        absurd (none_some f (sym gone ∙ e))
    go false is =
        carried s c a t f (sym (ap (flight_of t) h.flights
        ∙ of_without_other t h.ticket s.flights (other_number h.ticket t is)) ∙ e) (h.grants t)

begin_grants_none : (t : ℕ) (c : Command) (a : Answer) (officer : List ℕ) (moment : ℕ) (message : List ℕ)
    → c ≡ begin officer moment message → Grants t c a 0
begin_grants_none t c a officer moment message e = rw e refl

from_beginning : (s : Standing) (c : Command) (a : Answer) (new : Standing) (t : ℕ) (f : Flight) → BeginsOne s c a new
    → flight_of t new.flights ≡ Some f → Source s c a t f
from_beginning s c a new t f h e = go (flight_of t s.flights) refl
  where
    begun_now : (b : Bool) → (h.flight.ticket == t) ≡ b → (if b then Some h.flight else None) ≡ Some f → Source s c a t f
    begun_now true is there =
        let same : h.flight ≡ f = some_is h.flight f there in
        inr (record {
          officer = h.officer;
          moment = h.moment;
          message = h.message;
          command = h.command;
          answer = h.answer ∙ ap (λ (x : Flight). begun x.ticket x.pinned.budget) same;
          at_begin = ap (λ (x : Flight). x.at_begin) (sym same) ∙ h.at_begin;
          fresh = ap (λ (x : Flight). x.granted) (sym same) ∙ h.fresh;
          is_next = sym (same_number h.flight.ticket t is) ∙ h.next;
        })
    begun_now false is there = absurd (none_some f there)

    go : (was : Option Flight) → flight_of t s.flights ≡ was → Source s c a t f
    go None is = begun_now (h.flight.ticket == t) refl (sym (ap (flight_of t) h.flights ∙ of_more_new t s.flights h.flight is) ∙ e)
    go (Some g) is =
        let same : g ≡ f = some_is g f (sym (ap (flight_of t) h.flights ∙ of_more_old t s.flights h.flight g is) ∙ e) in
        carried s c a t f (is ∙ ap Some same) (begin_grants_none t c a h.officer h.moment h.message h.command)

step_source : (s : Standing) (c : Command) (a : Answer) (new : Standing) (t : ℕ) (f : Flight) → AreInOrder s
    → Step s c a new → flight_of t new.flights ≡ Some f → Source s c a t f
step_source s c a new t f k step e = go (step_change s c a new step)
  where
    go : Change s c a new → Source s c a t f
    go (inl h) = from_stays s c a new t f h e
    go (inr (inl h)) = from_grant s c a new t f h e
    go (inr (inr (inl h))) = from_giving_up s c a new t f k h e
    go (inr (inr (inr h))) = from_beginning s c a new t f h e

-- a grant of a ticket that was not given yet is one of another ticket
later_grants_none : (s : Standing) (c : Command) (a : Answer) (new : Standing) (t : ℕ) → AreInOrder s → s.last < t
    → GrantsOne s c a new → Grants t c a 0
later_grants_none s c a new t k later h = go (h.ticket == t) refl (h.grants t)
  where
    go : (b : Bool) → (h.ticket == t) ≡ b → Grants t c a (if b then h.turns else 0) → Grants t c a 0
    go true is g =
        let same : h.ticket ≡ t = same_number h.ticket t is in
        let none : flight_of h.ticket s.flights ≡ None = none_above 0 s.last h.ticket s.flights k (omega (arith, later, same)) in
        absurd (none_some h.flight (sym none ∙ h.there))
    go false is g = g

step_grants_none : (s : Standing) (c : Command) (a : Answer) (new : Standing) (t : ℕ) → AreInOrder s → Step s c a new → s.last < t → Grants t c a 0
step_grants_none s c a new t k step later = go (step_change s c a new step)
  where
    go : Change s c a new → Grants t c a 0
    go (inl h) = h.grants t
    go (inr (inl h)) = later_grants_none s c a new t k later h
    go (inr (inr (inl h))) = h.grants t
    go (inr (inr (inr h))) = begin_grants_none t c a h.officer h.moment h.message h.command

-- ---- runs

-- the capture was there before, and its turns grew by those that the commands granted
record IsCarriedThrough (s : Standing) (cs : List Command) (answers : List Answer) (t : ℕ) (f : Flight) : Type 0 where
  old : Flight
  there : flight_of t s.flights ≡ Some old
  ticket : old.ticket ≡ f.ticket
  at_begin : f.at_begin ≡ old.at_begin
  pinned : old.pinned ≡ f.pinned
  turns : ℕ
  grants : AllGrant t cs answers turns
  sum : f.granted ≡ old.granted + turns

-- one of the commands began the capture
record IsBegunIn (s : Standing) (cs : List Command) (answers : List Answer) (t : ℕ) (f : Flight) : Type 0 where
  later : s.last < t
  begun_in : HasBegun s cs answers f
  grants : AllGrant t cs answers f.granted

abbrev RunSource : Standing → List Command → List Answer → (t : ℕ) → Flight → Type 0
RunSource s cs answers t f = IsCarriedThrough s cs answers t f ⊎ IsBegunIn s cs answers t f

all_grant : (t : ℕ) (c : Command) (a : Answer) (cs : List Command) (answers : List Answer) (first rest total : ℕ)
    → Grants t c a first → AllGrant t cs answers rest → total ≡ first + rest → AllGrant t (c ∷ cs) (a ∷ answers) total
all_grant t c a cs answers first rest total g h e = (first, rest, g, h, e)

through : (s mid : Standing) (c : Command) (a : Answer) (cs : List Command) (answers : List Answer) (t : ℕ) (f : Flight)
    (h : IsCarriedThrough mid cs answers t f) → Source s c a t h.old → RunSource s (c ∷ cs) (a ∷ answers) t f
through s mid c a cs answers t f h (inl k) = inl (record {
  old = k.old;
  there = k.there;
  ticket = k.ticket ∙ h.ticket;
  at_begin = h.at_begin ∙ k.at_begin;
  pinned = k.pinned ∙ h.pinned;
  turns = k.turns + h.turns;
  grants = all_grant t c a cs answers k.turns h.turns (k.turns + h.turns) k.grants h.grants refl;
  sum = omega (arith, h.sum, k.sum);
})
through s mid c a cs answers t f h (inr k) = inr (record {
  later = omega (arith, k.is_next);
  begun_in = record {
    officer = k.officer;
    moment = k.moment;
    message = k.message;
    earlier = [];
    earlier_answers = [];
    later = cs;
    later_answers = answers;
    begins = ap (λ x. x ∷ cs) k.command;
    told = ap (λ x. x ∷ answers) (k.answer ∙ (λ i. begun (h.ticket i) ((h.pinned i).budget)));
    state = s;
    run = refl;
    at_begin = h.at_begin ∙ k.at_begin;
  };
  grants = all_grant t c a cs answers 0 h.turns f.granted
      (begin_grants_none t c a k.officer k.moment k.message k.command) h.grants (omega (arith, h.sum, k.fresh));
})

-- a BEGIN among the later commands is one of all commands
begun_later : (s mid : Standing) (c : Command) (a : Answer) (cs : List Command) (answers : List Answer) (f : Flight)
    → Step s c a mid → HasBegun mid cs answers f → HasBegun s (c ∷ cs) (a ∷ answers) f
begun_later s mid c a cs answers f step h = record {
  officer = h.officer;
  moment = h.moment;
  message = h.message;
  earlier = c ∷ h.earlier;
  earlier_answers = a ∷ h.earlier_answers;
  later = h.later;
  later_answers = h.later_answers;
  begins = ap (λ x. c ∷ x) h.begins;
  told = ap (λ x. a ∷ x) h.told;
  state = h.state;
  run = (mid, step, h.run);
  at_begin = h.at_begin;
}

run_source : (s : Standing) (cs : List Command) (answers : List Answer) (new : Standing) (t : ℕ) (f : Flight)
    → AreInOrder s → Steps s cs answers new → flight_of t new.flights ≡ Some f → RunSource s cs answers t f
run_source s [] [] new t f k h e = inl (record {
  old = f;
  there = ap (λ (x : Standing). flight_of t x.flights) (sym h) ∙ e;
  ticket = refl;
  at_begin = refl;
  pinned = refl;
  turns = 0;
  grants = refl;
  sum = omega arith;
})
run_source s (c ∷ cs) (a ∷ answers) new t f k h e =
    let order = step_in_order s c a h.0 h.1 k in
    go order.1 (run_source h.0 cs answers new t f order.0 h.2 e)
  where
    go : s.last ≤ h.0.last → RunSource h.0 cs answers t f → RunSource s (c ∷ cs) (a ∷ answers) t f
    go up (inl x) = through s h.0 c a cs answers t f x (step_source s c a h.0 t x.old k h.1 x.there)
    go up (inr x) =
        let later : s.last < t = omega (arith, up, x.later) in
        inr (record {
          later = later;
          begun_in = begun_later s h.0 c a cs answers f h.1 x.begun_in;
          grants = all_grant t c a cs answers 0 f.granted f.granted (step_grants_none s c a h.0 t k h.1 later) x.grants (omega arith);
        })
run_source s [] (a ∷ answers) new t f k h e = absurd h
run_source s (c ∷ cs) [] new t f k h e = absurd h

-- ---- sessions that begin with an archive

opening_source : (archive : Archive) (cs : List Command) (answers : List Answer) (s : Standing) (t : ℕ) (f : Flight)
    → Steps (opening archive) cs answers s → flight_of t s.flights ≡ Some f → IsBegunIn (opening archive) cs answers t f
opening_source archive cs answers s t f h e = go (run_source (opening archive) cs answers s t f (omega arith) h e)
  where
    go : RunSource (opening archive) cs answers t f → IsBegunIn (opening archive) cs answers t f
    go (inl x) = absurd (none_some x.old x.there)
    go (inr x) = x

pub granted_in_all : (archive : Archive) (cs : List Command) (answers : List Answer) (s : Standing) (t : ℕ) (f : Flight)
    → Steps (opening archive) cs answers s → flight_of t s.flights ≡ Some f → AllGrant t cs answers f.granted
granted_in_all archive cs answers s t f h e = (opening_source archive cs answers s t f h e).grants

pub stood_at_beginning : (archive : Archive) (cs : List Command) (answers : List Answer) (s : Standing) (t : ℕ)
    (f : Flight) → Steps (opening archive) cs answers s → flight_of t s.flights ≡ Some f
    → HasBegun (opening archive) cs answers f
stood_at_beginning archive cs answers s t f h e = (opening_source archive cs answers s t f h e).begun_in
