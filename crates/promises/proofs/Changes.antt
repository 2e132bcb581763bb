-- What a step makes of the captures in flight.
use Rattle.std.proofs.Common.{◌≡◌, ◌+◌, ◌<◌, ◌++◌, [], ◌∷◌, ℕ, List, length, refl, ap, ◌∙◌, sym, inl, inr, Bool, true, false, Option, Some, None}
use Rattle.std.specs.Prelude.{◌⊎◌, ◌==◌, if◌then◌else◌, nat_le, MatchBool}
use Rattle.record_archive.specs.Archive.{Archive}
use Rattle.desk_commands.specs.Answers.{Answer, done, dry_run, begun, running, ended, captured, listed, refused}
use Rattle.desk_commands.specs.Office.{Office, PlainCommand, OfficeRule, OfficeStep}
use Rattle.desk_commands.specs.Pinning.{BeginState}
use Rattle.desk_commands.specs.Standing.{Command, plain, begin, turn, finish, Flight, Standing, Step, BeginStep}
use Rattle.desk_commands.specs.Standing.{TurnStep, FinishStep, FinishWhole, Files, IsPinned, flight_of, grant}
use Rattle.desk_commands.specs.Standing.{without, after_finish, begin_refusal, begin_state, turn_answer}
use Rattle.promises.specs.Beginnings.{tickets_given}
use Rattle.promises.specs.Turns.{Grants, TurnGrants}

-- no ticket is given
abbrev pub GivesNone : Answer → Type 0
GivesNone a = (answers : List Answer) → tickets_given (a ∷ answers) ≡ tickets_given answers

-- all captures in flight stay as they are
pub record Stays (s : Standing) (c : Command) (a : Answer) (new : Standing) : Type 0 where
  pub flights : new.flights ≡ s.flights
  pub last : new.last ≡ s.last
  pub grants : (t : ℕ) → Grants t c a 0
  pub given : GivesNone a

-- one of them was granted turns
pub record GrantsOne (s : Standing) (c : Command) (a : Answer) (new : Standing) : Type 0 where
  pub ticket : ℕ
  pub flight : Flight
  pub there : flight_of ticket s.flights ≡ Some flight
  pub turns : ℕ
  pub flights : new.flights ≡ grant ticket turns s.flights
  pub last : new.last ≡ s.last
  pub grants : (t : ℕ) → Grants t c a (if ticket == t then turns else 0)
  pub given : GivesNone a

-- one is given up
pub record GivesOneUp (s : Standing) (c : Command) (a : Answer) (new : Standing) : Type 0 where
  pub ticket : ℕ
  pub flights : new.flights ≡ without ticket s.flights
  pub last : new.last ≡ s.last
  pub grants : (t : ℕ) → Grants t c a 0
  pub given : GivesNone a

-- one begins
pub record BeginsOne (s : Standing) (c : Command) (a : Answer) (new : Standing) : Type 0 where
  pub officer : List ℕ
  pub moment : ℕ
  pub message : List ℕ
  pub flight : Flight
  pub command : c ≡ begin officer moment message
  pub answer : a ≡ begun flight.ticket flight.pinned.budget
  pub allowed : begin_refusal (length s.flights) s.last moment (length message) ≡ None
  pub pinned : IsPinned flight
  pub at_begin : flight.at_begin ≡ begin_state s.office officer moment message
  pub fresh : flight.granted ≡ 0
  pub next : flight.ticket ≡ s.last + 1
  pub flights : new.flights ≡ s.flights ++ flight ∷ []
  pub last : new.last ≡ s.last + 1

abbrev pub Change : Standing → Command → Answer → Standing → Type 0
Change s c a new = Stays s c a new ⊎ (GrantsOne s c a new ⊎ (GivesOneUp s c a new ⊎ BeginsOne s c a new))

stays : (s : Standing) (c : Command) (a : Answer) (new : Standing) → new ≡ s → ((t : ℕ) → Grants t c a 0) → GivesNone a → Change s c a new
stays s c a new e g n = inl (record { flights = ap (λ (x : Standing). x.flights) e; last = ap (λ (x : Standing). x.last) e; grants = g; given = n })

refused_none : (a : Answer) (n : ℕ) (at : Option ℕ) → a ≡ refused n at → GivesNone a
refused_none a n at e answers = rw e refl

-- ---- commands that have nothing to do with captures in flight

rule_none : (s : Office) (c : PlainCommand) (a : Answer) (new : Office) → OfficeRule s c a new → GivesNone a
rule_none s c done new h answers = refl
rule_none s c (dry_run o) new h answers = refl
rule_none s c (listed lines) new h answers = refl
rule_none s c (refused n at) new h answers = refl
rule_none s c (begun t b) new h answers = absurd h
rule_none s c (running k) new h answers = absurd h
rule_none s c (ended k) new h answers = absurd h
rule_none s c (captured f lines) new h answers = absurd h

office_none : (s : Office) (c : PlainCommand) (a : Answer) (new : Office) → OfficeStep s c a new → GivesNone a
office_none s c a new (inl h) = rule_none s c a new h
office_none s c a new (inr h) = refused_none a h.0 None h.2

plain_change : (s : Standing) (c : PlainCommand) (a : Answer) (b : Office) (new : Standing) → OfficeStep s.office c a b
    → new ≡ record s { office = b } → Change s (plain c) a new
plain_change s c a b new h e = inl (record {
  flights = ap (λ (x : Standing). x.flights) e;
  last = ap (λ (x : Standing). x.last) e;
  grants = λ t. refl;
  given = office_none s.office c a b h;
})

-- ---- beginnings

begin_change : (s : Standing) (officer : List ℕ) (moment : ℕ) (message : List ℕ) (a : Answer) (new : Standing)
    → BeginStep s officer moment message a new → Change s (begin officer moment message) a new
begin_change s officer moment message (begun t b) new h = inr (inr (inr (record {
  officer = officer;
  moment = moment;
  message = message;
  flight = h.flight;
  command = refl;
  answer = λ i. begun ((h.ticket ∙ sym h.next) i) (h.budget i);
  allowed = h.allowed;
  pinned = h.pinned;
  at_begin = h.at_begin;
  fresh = h.fresh;
  next = h.next;
  flights = ap (λ (x : Standing). x.flights) h.leaves;
  last = ap (λ (x : Standing). x.last) h.leaves;
})))
begin_change s officer moment message (refused n at) new h = stays s _ (refused n at) new h.0 (λ t. refl) (λ answers. refl)
begin_change s officer moment message done new h = absurd h
begin_change s officer moment message (dry_run o) new h = absurd h
begin_change s officer moment message (running k) new h = absurd h
begin_change s officer moment message (ended k) new h = absurd h
begin_change s officer moment message (captured f ls) new h = absurd h
begin_change s officer moment message (listed ls) new h = absurd h

-- ---- turns

-- a TURN of a ticket grants its turns to that ticket, and none to any other
turn_grants : (t k n : ℕ) (a : Answer) (u : ℕ) → TurnGrants k a n → Grants u (turn t k) a (if t == u then n else 0)
turn_grants t k n a u h = go (t == u)
  where
    go : (b : Bool) → MatchBool b (TurnGrants k a (if b then n else 0)) ((if b then n else 0) ≡ 0)
    go true = h
    go false = refl

no_ticket_grants : (t k : ℕ) (a : Answer) (u : ℕ) → a ≡ refused 91 None → Grants u (turn t k) a 0
no_ticket_grants t k a u e = go (t == u)
  where
    go : (b : Bool) → MatchBool b (TurnGrants k a 0) (◌≡◌ {A = ℕ} 0 0)
    go true = rw e refl
    go false = refl

turned_grants : (f : Flight) (k : ℕ) (a : Answer) → a ≡ turn_answer f (f.granted + k) → TurnGrants k a k
turned_grants f k a e = go (nat_le f.run_length (f.granted + k)) e
  where
    go : (b : Bool) → a ≡ (if b then ended f.run_length else running (f.granted + k)) → TurnGrants k a k
    go true is = rw is refl
    go false is = rw is refl

turned_none : (f : Flight) (k : ℕ) (a : Answer) → a ≡ turn_answer f k → GivesNone a
turned_none f k a e answers = go (nat_le f.run_length k) e
  where
    go : (b : Bool) → a ≡ (if b then ended f.run_length else running k) → tickets_given (a ∷ answers) ≡ tickets_given answers
    go true is = rw is refl
    go false is = rw is refl

interrupted_grants : (k j : ℕ) (a : Answer) → a ≡ refused 99 None → j < k → TurnGrants k a j
interrupted_grants k j a e h = rw e h

turn_change : (s : Standing) (t k : ℕ) (f : Option Flight) (a : Answer) (new : Standing) → flight_of t s.flights ≡ f
    → TurnStep s t k f a new → Change s (turn t k) a new
turn_change s t k None a new is h = stays s _ a new h.1 (λ u. no_ticket_grants t k a u h.0) (refused_none a 91 None h.0)
turn_change s t k (Some f) a new is (inl h) = inr (inl (record {
  ticket = t;
  flight = f;
  there = is;
  turns = k;
  flights = ap (λ (x : Standing). x.flights) h.1;
  last = ap (λ (x : Standing). x.last) h.1;
  grants = λ u. turn_grants t k k a u (turned_grants f k a h.0);
  given = turned_none f (f.granted + k) a h.0;
}))
turn_change s t k (Some f) a new is (inr h) = inr (inl (record {
  ticket = t;
  flight = f;
  there = is;
  turns = h.1.0;
  flights = ap (λ (x : Standing). x.flights) h.1.2;
  last = ap (λ (x : Standing). x.last) h.1.2;
  grants = λ u. turn_grants t k h.1.0 a u (interrupted_grants k h.1.0 a h.0 h.1.1.within);
  given = refused_none a 99 None h.0;
}))

-- ---- finishes

files_change : (s : Standing) (t : ℕ) (at_begin : BeginState) (a : Answer) (b : Archive) (new : Standing)
    → Files s.office.archive at_begin a b → new ≡ after_finish s t a b → Change s (finish t) a new
files_change s t at_begin (captured fault lines) b new h e = inr (inr (inl (record {
  ticket = t;
  flights = ap (λ (x : Standing). x.flights) e;
  last = ap (λ (x : Standing). x.last) e;
  grants = λ u. refl;
  given = λ answers. refl;
})))
files_change s t at_begin (refused n at) b new h e = inl (record {
  flights = ap (λ (x : Standing). x.flights) e;
  last = ap (λ (x : Standing). x.last) e;
  grants = λ u. refl;
  given = λ answers. refl;
})
files_change s t at_begin done b new h e = absurd h
files_change s t at_begin (dry_run o) b new h e = absurd h
files_change s t at_begin (begun x y) b new h e = absurd h
files_change s t at_begin (running k) b new h e = absurd h
files_change s t at_begin (ended k) b new h e = absurd h
files_change s t at_begin (listed ls) b new h e = absurd h

whole_change : (s : Standing) (t : ℕ) (early : Bool) (at_begin : BeginState) (a : Answer) (new : Standing)
    → FinishWhole s t early at_begin a new → Change s (finish t) a new
whole_change s t true at_begin a new h = stays s _ a new h.1 (λ u. refl) (refused_none a 92 None h.0)
whole_change s t false at_begin a new (inl h) = files_change s t at_begin a h.0 new h.1 h.2
whole_change s t false at_begin a new (inr h) = stays s _ a new h.3 (λ u. refl) (refused_none a h.0 None h.2)

finish_change : (s : Standing) (t : ℕ) (f : Option Flight) (a : Answer) (new : Standing) → FinishStep s t f a new → Change s (finish t) a new
finish_change s t None a new h = stays s _ a new h.1 (λ u. refl) (refused_none a 91 None h.0)
finish_change s t (Some f) a new h = whole_change s t _ f.at_begin a new h

pub step_change : (s : Standing) (c : Command) (a : Answer) (new : Standing) → Step s c a new → Change s c a new
unfolding Step
step_change s (plain c) a new h = plain_change s c a h.0 new h.1 h.2
step_change s (begin officer moment message) a new h = begin_change s officer moment message a new h
step_change s (turn t k) a new h = turn_change s t k (flight_of t s.flights) a new refl h
step_change s (finish t) a new h = finish_change s t (flight_of t s.flights) a new h
