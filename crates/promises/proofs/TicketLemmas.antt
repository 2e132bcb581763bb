-- Captures in flight by their tickets, which ascend up to the last one given.
use Rattle.std.proofs.Common.{◌≡◌, ◌≢◌, ◌+◌, ◌<◌, ◌≤◌, ◌++◌, [], ◌∷◌, ℕ, List, length, refl, arith, Bool, true, false, Some, None}
use Rattle.std.specs.Prelude.{◌==◌, if◌then◌else◌}
use Rattle.std.specs.Option.{option_map}
use Rattle.std.proofs.lemmas.Bool.Decides.{nat_tests}
use Rattle.desk_commands.specs.Standing.{Flight, flight_of, grant, without}

-- a capture after it was granted turns
abbrev pub granted_more : ℕ → Flight → Flight
granted_more k f = record f { granted = f.granted + k }

pub of_grant : (t k : ℕ) (fs : List Flight) → flight_of t (grant t k fs) ≡ option_map (granted_more k) (flight_of t fs)
of_grant t k [] = refl
of_grant t k (f ∷ fs) = let rest = of_grant t k fs in grind (arith, nat_tests, rest)

pub of_grant_other : (t u k : ℕ) (fs : List Flight) → u ≢ t → flight_of t (grant u k fs) ≡ flight_of t fs
of_grant_other t u k [] e = refl
of_grant_other t u k (f ∷ fs) e = let rest = of_grant_other t u k fs e in grind (arith, nat_tests, rest, e)

pub of_without_other : (t u : ℕ) (fs : List Flight) → u ≢ t → flight_of t (without u fs) ≡ flight_of t fs
of_without_other t u [] e = refl
of_without_other t u (f ∷ fs) e = let rest = of_without_other t u fs e in grind (arith, nat_tests, rest, e)

pub of_more_old : (t : ℕ) (fs : List Flight) (f g : Flight) → flight_of t fs ≡ Some g → flight_of t (fs ++ f ∷ []) ≡ Some g
of_more_old t [] f g e = absurd cc
of_more_old t (x ∷ fs) f g e = go (x.ticket == t) refl (of_more_old t fs f g)
  where
    go : (b : Bool) → (x.ticket == t) ≡ b → (flight_of t fs ≡ Some g → flight_of t (fs ++ f ∷ []) ≡ Some g) → flight_of t (x ∷ fs ++ f ∷ []) ≡ Some g
    go true is rest = rw is (rw is at e)
    go false is rest = rw is (rest (rw is at e))

pub of_more_new : (t : ℕ) (fs : List Flight) (f : Flight) → flight_of t fs ≡ None
    → flight_of t (fs ++ f ∷ []) ≡ (if f.ticket == t then Some f else None)
of_more_new t [] f e = refl
of_more_new t (x ∷ fs) f e = go (x.ticket == t) refl (of_more_new t fs f)
  where
    go : (b : Bool) → (x.ticket == t) ≡ b
        → (flight_of t fs ≡ None → flight_of t (fs ++ f ∷ []) ≡ (if f.ticket == t then Some f else None))
        → flight_of t (x ∷ fs ++ f ∷ []) ≡ (if f.ticket == t then Some f else None)
    go true is rest = absurd (let some : Some x ≡ None = rw is at e in cc)
    go false is rest = rw is (rest (rw is at e))

-- ---- tickets in order

-- the tickets ascend, above the first number and up to the last one
abbrev pub AreTickets : (first : ℕ) → List Flight → (last : ℕ) → Type 0
AreTickets m [] l = m ≤ l
AreTickets m (f ∷ fs) l = (m < f.ticket) × AreTickets f.ticket fs l

wider : (m n l : ℕ) (fs : List Flight) → n ≤ m → AreTickets m fs l → AreTickets n fs l
wider m n l [] e h = omega (arith, e, h)
wider m n l (f ∷ fs) e h = (omega (arith, e, h.0), h.1)

tickets_end : (m l : ℕ) (fs : List Flight) → AreTickets m fs l → m ≤ l
tickets_end m l [] h = h
tickets_end m l (f ∷ fs) h = let rest = tickets_end f.ticket l fs h.1 in omega (arith, h.0, rest)

pub grant_tickets : (m l t k : ℕ) (fs : List Flight) → AreTickets m fs l → AreTickets m (grant t k fs) l
grant_tickets m l t k [] h = h
grant_tickets m l t k (f ∷ fs) h = go (f.ticket == t) (grant_tickets f.ticket l t k fs h.1)
  where
    go : (b : Bool) → AreTickets f.ticket (grant t k fs) l → AreTickets m (if b then granted_more k f ∷ fs else f ∷ grant t k fs) l
    go true rest = (h.0, h.1)
    go false rest = (h.0, rest)

pub without_tickets : (m l t : ℕ) (fs : List Flight) → AreTickets m fs l → AreTickets m (without t fs) l
without_tickets m l t [] h = h
without_tickets m l t (f ∷ fs) h = go (f.ticket == t) (without_tickets f.ticket l t fs h.1)
  where
    go : (b : Bool) → AreTickets f.ticket (without t fs) l → AreTickets m (if b then fs else f ∷ without t fs) l
    go true rest = wider f.ticket m l fs (omega (arith, h.0)) h.1
    go false rest = (h.0, rest)

pub more_tickets : (m l : ℕ) (fs : List Flight) (f : Flight) → AreTickets m fs l → f.ticket ≡ l + 1 → AreTickets m (fs ++ f ∷ []) (l + 1)
more_tickets m l [] f h e = (omega (arith, h, e), omega (arith, e))
more_tickets m l (x ∷ fs) f h e = (h.0, more_tickets x.ticket l fs f h.1 e)

none_below : (m l t : ℕ) (fs : List Flight) → AreTickets m fs l → t ≤ m → flight_of t fs ≡ None
none_below m l t [] h e = refl
none_below m l t (f ∷ fs) h e =
    let rest = none_below f.ticket l t fs h.1 (omega (arith, h.0, e)) in
    let above = h.0 in
    grind (arith, nat_tests, rest, above, e)

pub none_above : (m l t : ℕ) (fs : List Flight) → AreTickets m fs l → l < t → flight_of t fs ≡ None
none_above m l t [] h e = refl
none_above m l t (f ∷ fs) h e =
    let rest = none_above f.ticket l t fs h.1 e in
    let end = tickets_end f.ticket l fs h.1 in
    grind (arith, nat_tests, rest, end, e)

-- a ticket that was given up is not in flight any more
pub of_without : (m l t : ℕ) (fs : List Flight) → AreTickets m fs l → flight_of t (without t fs) ≡ None
of_without m l t [] h = refl
of_without m l t (f ∷ fs) h = go (f.ticket == t) refl (of_without f.ticket l t fs h.1)
  where
    go : (b : Bool) → (f.ticket == t) ≡ b → flight_of t (without t fs) ≡ None → flight_of t (if b then fs else f ∷ without t fs) ≡ None
    go true is rest = none_below f.ticket l t fs h.1 (grind (arith, nat_tests, is))
    go false is rest = rw is rest

-- ---- how many there are

pub length-grant : (t k : ℕ) (fs : List Flight) → length (grant t k fs) ≡ length fs
length-grant t k [] = refl
length-grant t k (f ∷ fs) = let rest = length-grant t k fs in grind (arith, nat_tests, rest)

pub length-without : (t : ℕ) (fs : List Flight) → length (without t fs) ≤ length fs
length-without t [] = omega arith
length-without t (f ∷ fs) = let rest = length-without t fs in grind (arith, nat_tests, rest)
