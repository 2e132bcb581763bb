-- What holds of all captures in flight, and of the tickets given.
use Rattle.std.proofs.Common.{◌≡◌, ◌+◌, ◌≤◌, ◌++◌, [], ◌∷◌, ℕ, List, length, refl, arith, ap, ◌∙◌, sym, subst, inl, inr}
use Rattle.std.proofs.Common.{Bool, true, false, Option, Some, None}
use Rattle.std.specs.Prelude.{if◌then◌else◌, ◌==◌, All}
use Rattle.std.specs.List.{AllByRecursion}
use Rattle.std.proofs.lemmas.List.{length-append}
use Rattle.std.proofs.lemmas.List.Elements.{All-from_recursion}
use Rattle.record_archive.specs.Archive.{Archive}
use Rattle.desk_commands.specs.Answers.{Answer, begun}
use Rattle.desk_commands.specs.Limits.{last_ticket, most_in_flight}
use Rattle.desk_commands.specs.Standing.{Command, Flight, Standing, IsPinned, flight_of, grant, without, opening}
use Rattle.promises.specs.Beginnings.{tickets_given, AreNumbersUpTo}
use Rattle.promises.specs.Runs.{IsReachedState, Steps}
use Rattle.promises.specs.Turns.{HasEnded}
use Rattle.promises.proofs.Changes.{Change, step_change}
use Rattle.promises.proofs.CitedLaws.{LengthsAreOne, RunsEnd}
use Rattle.promises.proofs.Pinned.{within_budget}
use Rattle.promises.proofs.Refusals.{allowed_room}
use Rattle.promises.proofs.TicketLemmas.{granted_more, length-grant, length-without}

-- ---- each is pinned

abbrev AllPinned : List Flight → Type 0
AllPinned = AllByRecursion IsPinned

grant_pinned : (t k : ℕ) (fs : List Flight) → AllPinned fs → AllPinned (grant t k fs)
grant_pinned t k [] h = tt
grant_pinned t k (f ∷ fs) h = go (f.ticket == t) (grant_pinned t k fs h.1)
  where
    go : (b : Bool) → AllPinned (grant t k fs) → AllPinned (if b then granted_more k f ∷ fs else f ∷ grant t k fs)
    go true rest = (record { pins = h.0.pins; well = h.0.well; length = h.0.length }, h.1)
    go false rest = (h.0, rest)

without_pinned : (t : ℕ) (fs : List Flight) → AllPinned fs → AllPinned (without t fs)
without_pinned t [] h = tt
without_pinned t (f ∷ fs) h = go (f.ticket == t) (without_pinned t fs h.1)
  where
    go : (b : Bool) → AllPinned (without t fs) → AllPinned (if b then fs else f ∷ without t fs)
    go true rest = h.1
    go false rest = (h.0, rest)

more_pinned : (fs : List Flight) (f : Flight) → AllPinned fs → IsPinned f → AllPinned (fs ++ f ∷ [])
more_pinned [] f h k = (k, tt)
more_pinned (g ∷ fs) f h k = (h.0, more_pinned fs f h.1 k)

-- ---- what a step keeps

-- the captures in flight are pinned, and neither they nor the tickets are too many
record IsWithinLimits (s : Standing) : Type 0 where
  pinned : AllPinned s.flights
  count : length s.flights ≤ most_in_flight
  last : s.last ≤ last_ticket

change_within : (s : Standing) (c : Command) (a : Answer) (new : Standing) → Change s c a new → IsWithinLimits s → IsWithinLimits new
change_within s c a new (inl h) k = record {
  pinned = subst AllPinned (sym h.flights) k.pinned;
  count = rw h.flights k.count;
  last = rw h.last k.last;
}
change_within s c a new (inr (inl h)) k = record {
  pinned = subst AllPinned (sym h.flights) (grant_pinned h.ticket h.turns s.flights k.pinned);
  count = rw (h.flights, length-grant h.ticket h.turns s.flights) k.count;
  last = rw h.last k.last;
}
change_within s c a new (inr (inr (inl h))) k = record {
  pinned = subst AllPinned (sym h.flights) (without_pinned h.ticket s.flights k.pinned);
  count = let fewer = length-without h.ticket s.flights in rw h.flights (omega (arith, fewer, k.count));
  last = rw h.last k.last;
}
change_within s c a new (inr (inr (inr h))) k =
    let room = allowed_room (length s.flights) s.last h.moment (length h.message) h.allowed in
    record {
      pinned = subst AllPinned (sym h.flights) (more_pinned s.flights h.flight k.pinned h.pinned);
      count = rw (h.flights, length-append s.flights (h.flight ∷ [])) (omega (arith, room.0));
      last = rw h.last (omega (arith, room.1));
    }

run_within : (s : Standing) (cs : List Command) (answers : List Answer) (new : Standing) → Steps s cs answers new
    → IsWithinLimits s → IsWithinLimits new
run_within s [] [] new h k = subst IsWithinLimits (sym h) k
run_within s (c ∷ cs) (a ∷ answers) new h k = run_within h.0 cs answers new h.2 (change_within s c a h.0 (step_change s c a h.0 h.1) k)
run_within s [] (a ∷ answers) new h k = absurd h
run_within s (c ∷ cs) [] new h k = absurd h

reached_within : (s : Standing) → IsReachedState s → IsWithinLimits s
reached_within s h = run_within (opening h.archive) h.commands h.answers s h.run (record { pinned = tt; count = omega arith; last = omega arith })

pub all_pinned : (s : Standing) → IsReachedState s → All IsPinned s.flights
all_pinned s h = All-from_recursion IsPinned s.flights (reached_within s h).pinned

pub most_flights : (s : Standing) → IsReachedState s → length s.flights ≤ most_in_flight
most_flights s h = (reached_within s h).count

pub most_tickets : (s : Standing) → IsReachedState s → s.last ≤ last_ticket
most_tickets s h = (reached_within s h).last

pinned_of : (t : ℕ) (fs : List Flight) (f : Flight) → AllPinned fs → flight_of t fs ≡ Some f → IsPinned f
pinned_of t [] f h e = absurd (let none : ◌≡◌ {A = Option Flight} None (Some f) = e in cc)
pinned_of t (g ∷ fs) f h e = go (g.ticket == t) refl (pinned_of t fs f h.1)
  where
    go : (b : Bool) → (g.ticket == t) ≡ b → (flight_of t fs ≡ Some f → IsPinned f) → IsPinned f
    go true is rest = let same : g ≡ f = let some : Some g ≡ Some f = rw is at e in cc in subst IsPinned same h.0
    go false is rest = rest (rw is at e)

-- a capture that was granted as many turns as its budget has come to its end
pub enough_turns : RunsEnd → LengthsAreOne → (s : Standing) (t : ℕ) (f : Flight) → IsReachedState s
    → flight_of t s.flights ≡ Some f → f.pinned.budget ≤ f.granted → HasEnded f
enough_turns ends_within one_step s t f h e enough =
    let within = (within_budget ends_within one_step f (pinned_of t s.flights f (reached_within s h).pinned e)).0 in
    omega (arith, within, enough)

-- ---- the tickets given

next_ticket : (a : Answer) (t b first last : ℕ) (answers : List Answer) → a ≡ begun t b → t ≡ first + 1
    → AreNumbersUpTo t (tickets_given answers) last → AreNumbersUpTo first (tickets_given (a ∷ answers)) last
next_ticket a t b first last answers e f h = rw e (f, h)

change_given : (s : Standing) (c : Command) (a : Answer) (mid : Standing) (answers : List Answer) (last : ℕ)
    → Change s c a mid → AreNumbersUpTo mid.last (tickets_given answers) last
    → AreNumbersUpTo s.last (tickets_given (a ∷ answers)) last
change_given s c a mid answers last (inl h) k = rw (h.given answers) (rw h.last at k)
change_given s c a mid answers last (inr (inl h)) k = rw (h.given answers) (rw h.last at k)
change_given s c a mid answers last (inr (inr (inl h))) k = rw (h.given answers) (rw h.last at k)
change_given s c a mid answers last (inr (inr (inr h))) k =
    let same : mid.last ≡ h.flight.ticket = h.last ∙ sym h.next in
    next_ticket a h.flight.ticket h.flight.pinned.budget s.last last answers h.answer h.next (rw same at k)

given_in_order : (s : Standing) (cs : List Command) (answers : List Answer) (new : Standing) → Steps s cs answers new
    → AreNumbersUpTo s.last (tickets_given answers) new.last
given_in_order s [] [] new h = ap (λ (x : Standing). x.last) h
given_in_order s (c ∷ cs) (a ∷ answers) new h =
    change_given s c a h.0 answers new.last (step_change s c a h.0 h.1) (given_in_order h.0 cs answers new h.2)
given_in_order s [] (a ∷ answers) new h = absurd h
given_in_order s (c ∷ cs) [] new h = absurd h

pub tickets_in_order : (archive : Archive) (cs : List Command) (answers : List Answer) (s : Standing)
    → Steps (opening archive) cs answers s → AreNumbersUpTo 0 (tickets_given answers) s.last
tickets_in_order archive cs answers s h = given_in_order (opening archive) cs answers s h
