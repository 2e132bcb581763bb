-- The captures in flight and the flights that they hold.
use Rattle.std.proofs.Common.{◌≡◌, ◌<◌, ◌+◌, ◌++◌, ◌∷◌, [], ℕ, zero, suc, List, length, refl, arith, ap, ◌∙◌, sym, inl}
use Rattle.std.proofs.Common.{inr, Bool, true, false, Some, None, get_or, set, eqb, subst}
use Rattle.std.specs.Prelude.{◌==◌, nat_le, position, remove}
use Rattle.std.specs.List.{position_from}
use Rattle.std.proofs.lemmas.Bool.Decides.{nat_tests}
use Rattle.std.proofs.lemmas.List.Quantifiers.{position-Some}
use Rattle.std.proofs.lemmas.Iterator.Adapters.{position_from-zero}
use Rattle.desk_commands.specs.Answers.{Answer, refused}
use Rattle.desk_commands.specs.Limits.{most_in_flight}
use Rattle.desk_commands.specs.Standing.{Flight, flight_of, grant, turn_answer, without}
use Rattle.desk_flights.specs.FlightViews.{FlightView, Holds, IsGranted, StopsShort, granting_more}
use Rattle.desk_flights.specs.Flights.{Adds, AreHeld, Finds, Removes, TellsFull, Turns}

-- there are as many captures as flights
pub as_many : (xs : List FlightView) (fs : List Flight) → AreHeld xs fs → length xs ≡ length fs
as_many [] [] a = refl
as_many (x ∷ xs) (f ∷ fs) a = ap suc (as_many xs fs a.1)
as_many [] (f ∷ fs) a = absurd a
as_many (x ∷ xs) [] a = absurd a

pub tells_full : (xs : List FlightView) → TellsFull xs (nat_le most_in_flight (length xs))
tells_full xs = λ fs a. ap (nat_le most_in_flight) (as_many xs fs a)

pub adds : (xs : List FlightView) (x : FlightView) → Adds xs x (xs ++ x ∷ [])
adds xs x = λ fs f a h. more xs fs f a h
  where
    more : (xs : List FlightView) (fs : List Flight) (f : Flight) → AreHeld xs fs → Holds x f → AreHeld (xs ++ x ∷ []) (fs ++ f ∷ [])
    more [] [] f a h = (h, tt)
    more (y ∷ ys) (g ∷ fs) f a h = (a.0, more ys fs f a.1 h)
    more [] (g ∷ fs) f a h = absurd a
    more (y ∷ ys) [] f a h = absurd a

-- the first capture with the ticket is at this place of the list
record IsAt (t : ℕ) (xs : List FlightView) (i : ℕ) (d : FlightView) : Type 0 where
  within : i < length xs
  here : eqb (get_or xs i d).ticket t ≡ true
  first : (k : ℕ) → k < i → eqb (get_or xs k d).ticket t ≡ false

-- the flight of that ticket, and the effects of a change and a removal
record HasFlight (t : ℕ) (xs : List FlightView) (fs : List Flight) (i : ℕ) (d : FlightView) : Type 0 where
  flight : Flight
  is : flight_of t fs ≡ Some flight
  holds : Holds (get_or xs i d) flight
  changed : (x : FlightView) (k : ℕ) → Holds x (granting_more flight k) → AreHeld (set xs i x) (grant t k fs)
  removed : AreHeld (remove xs i) (without t fs)

has_flight : (t : ℕ) (xs : List FlightView) (fs : List Flight) (i : ℕ) (d : FlightView) → AreHeld xs fs → IsAt t xs i d → HasFlight t xs fs i d
has_flight t (x ∷ xs) (f ∷ fs) zero d a at =
    let yes : eqb f.ticket t ≡ true = ap (λ n. eqb n t) (sym a.0.ticket) ∙ at.here in
    record {
      flight = f;
      is = rw yes refl;
      holds = a.0;
      changed = λ y k e. rw yes (e, a.1);
      removed = rw yes a.1;
    }
has_flight t (x ∷ xs) (f ∷ fs) (suc i) d a at =
    let no : eqb f.ticket t ≡ false = ap (λ n. eqb n t) (sym a.0.ticket) ∙ at.first 0 (omega arith) in
    let at2 : IsAt t xs i d = record { within = omega (arith, at.within); here = at.here; first = λ k lt. at.first (suc k) (omega arith) } in
    let r = has_flight t xs fs i d a.1 at2 in
    record {
      flight = r.flight;
      is = rw no r.is;
      holds = r.holds;
      changed = λ y k e. rw no (a.0, r.changed y k e);
      removed = rw no (a.0, r.removed);
    }
has_flight t [] fs i d a at = absurd (omega (arith, at.within))
has_flight t (x ∷ xs) [] i d a at = absurd a

-- no capture has the ticket
none_from : (t i : ℕ) (xs : List FlightView) (fs : List Flight) → AreHeld xs fs
    → position_from (λ x. x.ticket == t) i xs ≡ None → flight_of t fs ≡ None
none_from t i [] [] a h = refl
none_from t i (x ∷ xs) (f ∷ fs) a h =
    let same : f.ticket ≡ x.ticket = sym a.0.ticket in
    let rest : position_from (λ y. y.ticket == t) (i + 1) xs ≡ None → flight_of t fs ≡ None = none_from t (i + 1) xs fs a.1 in
    grind (arith, nat_tests, same, rest, h)
none_from t i [] (f ∷ fs) a h = absurd a
none_from t i (x ∷ xs) [] a h = absurd a

none : (t : ℕ) (xs : List FlightView) (fs : List Flight) → AreHeld xs fs → position (λ x. x.ticket == t) xs ≡ None → flight_of t fs ≡ None
none t xs fs a h = none_from t 0 xs fs a (sym (position_from-zero (λ x. x.ticket == t) xs) ∙ h)

some : (t : ℕ) (xs : List FlightView) (fs : List Flight) (i : ℕ) (d : FlightView) → AreHeld xs fs
    → position (λ x. x.ticket == t) xs ≡ Some i → HasFlight t xs fs i d
some t xs fs i d a e =
    let h = position-Some (λ x. x.ticket == t) xs i d e in
    has_flight t xs fs i d a (record { within = h.0; here = h.1; first = h.2 })

-- without a flight of the ticket nothing is granted and no flight is removed
grant-none : (t k : ℕ) (fs : List Flight) → flight_of t fs ≡ None → grant t k fs ≡ fs
grant-none t k [] e = refl
grant-none t k (f ∷ fs) e = go (eqb f.ticket t) refl (grant-none t k fs)
  where
    go : (b : Bool) → eqb f.ticket t ≡ b → (flight_of t fs ≡ None → grant t k fs ≡ fs) → grant t k (f ∷ fs) ≡ f ∷ fs
    go true is rest = absurd (let no : Some f ≡ None = sym (rw is refl) ∙ e in cc)
    go false is rest = rw is (ap (λ gs. f ∷ gs) (rest (sym (rw is refl) ∙ e)))

without-none : (t : ℕ) (fs : List Flight) → flight_of t fs ≡ None → without t fs ≡ fs
without-none t [] e = refl
without-none t (f ∷ fs) e = go (eqb f.ticket t) refl (without-none t fs)
  where
    go : (b : Bool) → eqb f.ticket t ≡ b → (flight_of t fs ≡ None → without t fs ≡ fs) → without t (f ∷ fs) ≡ f ∷ fs
    go true is rest = absurd (let no : Some f ≡ None = sym (rw is refl) ∙ e in cc)
    go false is rest = rw is (ap (λ gs. f ∷ gs) (rest (sym (rw is refl) ∙ e)))

pub finds_none : (t : ℕ) (xs : List FlightView) → position (λ x. x.ticket == t) xs ≡ None → Finds xs t None
finds_none t xs e = λ fs a. let is = none t xs fs a e in rw is tt

pub finds_some : (t : ℕ) (xs : List FlightView) (i : ℕ) (x : FlightView) → position (λ y. y.ticket == t) xs ≡ Some i
    → x ≡ get_or xs i x → Finds xs t (Some x)
finds_some t xs i x e here = λ fs a.
    let found = some t xs fs i x a e in
    let P : FlightView → Type 0 = λ y. Holds y found.flight in
    rw found.is (subst P (sym here) found.holds)

pub turn_none : (t k : ℕ) (xs : List FlightView) → position (λ x. x.ticket == t) xs ≡ None → Turns xs t k (refused 91 None) xs
turn_none t k xs e = λ s a.
    let is = none t xs s.flights a e in
    let same : grant t 0 s.flights ≡ s.flights = grant-none t 0 s.flights is in
    let P : List Flight → Type 0 = AreHeld xs in
    record {
      made = 0;
      step = rw is (refl, ap (λ fs. record s { flights = fs }) same);
      held = subst P (sym same) a;
    }

pub turn_made : (t k i : ℕ) (xs : List FlightView) (d y : FlightView) (a : Answer)
    → position (λ x. x.ticket == t) xs ≡ Some i → IsGranted (get_or xs i d) k y
    → ((f : Flight) → Holds y f → a ≡ turn_answer f f.granted) → Turns xs t k a (set xs i y)
turn_made t k i xs d y a e made tells = λ s h.
    let found = some t xs s.flights i d h e in
    let holds = made found.flight found.holds in
    record {
      made = k;
      step = rw found.is (inl (tells (granting_more found.flight k) holds, refl));
      held = found.changed y k holds;
    }

pub turn_stopped : (t k i : ℕ) (xs : List FlightView) (d y : FlightView) → position (λ x. x.ticket == t) xs ≡ Some i
    → StopsShort (get_or xs i d) k y → Turns xs t k (refused 99 None) (set xs i y)
turn_stopped t k i xs d y e stop = λ s h.
    let found = some t xs s.flights i d h e in
    let short = stop found.flight found.holds in
    record {
      made = short.0;
      step = rw found.is (inr (refl, (short.0, short.1, refl)));
      held = found.changed y short.0 short.2;
    }

pub removes_none : (t : ℕ) (xs : List FlightView) → position (λ x. x.ticket == t) xs ≡ None → Removes xs t xs
removes_none t xs e = λ fs a.
    let same : without t fs ≡ fs = without-none t fs (none t xs fs a e) in
    let P : List Flight → Type 0 = AreHeld xs in
    subst P (sym same) a

pub removes_some : (t i : ℕ) (xs : List FlightView) (d : FlightView) → position (λ x. x.ticket == t) xs ≡ Some i → Removes xs t (remove xs i)
removes_some t i xs d e = λ fs a. let found = some t xs fs i d a e in found.removed
