-- Exactly when TURN, FINISH and BEGIN are refused, and what TURN answers.
use Rattle.std.proofs.Common.{◌≡◌, ◌≢◌, ◌+◌, ◌<◌, ◌≤◌, ℕ, List, length, refl, arith, ap, ◌∙◌, sym, subst, inl, inr}
use Rattle.std.proofs.Common.{Bool, true, false, Option, Some, None}
use Rattle.std.specs.Prelude.{◌⊎◌, ◌↔◌, if◌then◌else◌, nat_le, nat_lt}
use Rattle.std.specs.Option.{option_map}
use Rattle.std.proofs.lemmas.Bool.Decides.{nat_tests}
use Rattle.record_archive.specs.Archive.{Archive}
use Rattle.desk_commands.specs.Answers.{Answer, done, dry_run, begun, running, ended, captured, listed, refused}
use Rattle.desk_commands.specs.Limits.{greatest_message, last_moment, last_ticket, most_in_flight}
use Rattle.desk_commands.specs.Office.{IsTrouble}
use Rattle.desk_commands.specs.Pinning.{BeginState}
use Rattle.desk_commands.specs.Standing.{begin, turn, finish, Flight, Standing, Step, BeginStep, TurnStep, FinishStep}
use Rattle.desk_commands.specs.Standing.{FinishWhole, Files, flight_of, begin_refusal, turn_answer}
use Rattle.promises.specs.Beginnings.{MayBegin}
use Rattle.promises.specs.Turns.{TellsTurns}
use Rattle.promises.proofs.TicketLemmas.{granted_more, of_grant}
use Rattle.promises.proofs.Verdicts.{some_is}

one_number : (m n : ℕ) (at on : Option ℕ) → refused m at ≡ refused n on → m ≡ n
one_number m n at on e = cc

none_some : {A : Type 0} (x : A) → ◌≡◌ {A = Option A} None (Some x) → ⊥
none_some x e = cc

-- ---- turns

turned_refused : (f : Flight) (k n : ℕ) → turn_answer f k ≡ refused n None → ⊥
turned_refused f k n e = go (nat_le f.run_length k) e
  where
    go : (b : Bool) → (if b then ended f.run_length else running k) ≡ refused n None → ⊥
    go true is = cc
    go false is = cc

turn_91 : (s : Standing) (t k : ℕ) (f : Option Flight) (a : Answer) (new : Standing) → TurnStep s t k f a new → (a ≡ refused 91 None) ↔ (f ≡ None)
turn_91 s t k None a new h = (λ _. refl, λ _. h.0)
turn_91 s t k (Some f) a new (inl h) = (λ e. absurd (turned_refused f (f.granted + k) 91 (sym h.0 ∙ e)), λ e. absurd (none_some f (sym e)))
turn_91 s t k (Some f) a new (inr h) = (
  λ e. let same = one_number 99 91 None None (sym h.0 ∙ e) in
      absurd (omega (arith, same)),
  λ e. absurd (none_some f (sym e)),
)

pub no_ticket_to_turn : (s : Standing) (t count : ℕ) (a : Answer) (new : Standing) → Step s (turn t count) a new
    → (a ≡ refused 91 None) ↔ (flight_of t s.flights ≡ None)
unfolding Step
no_ticket_to_turn s t count a new h = turn_91 s t count (flight_of t s.flights) a new h

turned_tells : (f : Flight) (k : ℕ) → TellsTurns k f.run_length (turn_answer f k)
turned_tells f k = go (nat_le f.run_length k) refl
  where
    go : (b : Bool) → nat_le f.run_length k ≡ b → TellsTurns k f.run_length (if b then ended f.run_length else running k)
    go true is = (grind (arith, nat_tests, is), refl)
    go false is = (grind (arith, nat_tests, is), refl)

turn_tells : (s : Standing) (t k : ℕ) (was : Option Flight) (a : Answer) (new : Standing) (f : Flight)
    → flight_of t s.flights ≡ was → TurnStep s t k was a new → flight_of t new.flights ≡ Some f
    → TellsTurns f.granted f.run_length a
turn_tells s t k None a new f is h e = absurd (none_some f (sym is ∙ ap (λ (x : Standing). flight_of t x.flights) (sym h.1) ∙ e))
turn_tells s t k (Some g) a new f is (inl h) e =
    let after : flight_of t new.flights ≡ Some (granted_more k g) = ap (λ (x : Standing). flight_of t x.flights) h.1
    ∙ of_grant t k s.flights ∙ ap (option_map (granted_more k)) is in
    let same : granted_more k g ≡ f = some_is (granted_more k g) f (sym after ∙ e) in
    let P : Flight → Type 0 = λ x. TellsTurns x.granted x.run_length a in
    subst P same (rw h.0 (turned_tells g (g.granted + k)))
turn_tells s t k (Some g) a new f is (inr h) e = rw h.0 refl

pub turns_told : (s : Standing) (t count : ℕ) (a : Answer) (new : Standing) (f : Flight) → Step s (turn t count) a new
    → flight_of t new.flights ≡ Some f → TellsTurns f.granted f.run_length a
unfolding Step
turns_told s t count a new f h e = turn_tells s t count (flight_of t s.flights) a new f refl h e

-- ---- finishes

files_87 : (a : Archive) (at_begin : BeginState) (r : Answer) (new : Archive) (m : ℕ) → Files a at_begin r new → r ≡ refused m None → m ≡ 87
files_87 a at_begin (refused n at) new m h e = sym (one_number n m at None e) ∙ h.0
files_87 a at_begin (captured fault lines) new m h e = absurd cc
files_87 a at_begin done new m h e = absurd h
files_87 a at_begin (dry_run o) new m h e = absurd h
files_87 a at_begin (begun t b) new m h e = absurd h
files_87 a at_begin (running k) new m h e = absurd h
files_87 a at_begin (ended k) new m h e = absurd h
files_87 a at_begin (listed lines) new m h e = absurd h

-- the numbers by which a capture that has come to its end is not filed
abbrev IsUnfiled : ℕ → Type 0
IsUnfiled m = (m ≡ 87) ⊎ IsTrouble m

whole_number : (s : Standing) (t : ℕ) (at_begin : BeginState) (a : Answer) (new : Standing) (m : ℕ)
    → FinishWhole s t false at_begin a new → a ≡ refused m None → IsUnfiled m
whole_number s t at_begin a new m (inl h) e = inl (files_87 s.office.archive at_begin a h.0 m h.1 e)
whole_number s t at_begin a new m (inr h) e = inr (subst IsTrouble (one_number h.0 m None None (sym h.2 ∙ e)) h.1)

not_91 : IsUnfiled 91 → ⊥
not_91 (inl e) = omega (arith, e)
not_91 (inr (inl e)) = omega (arith, e)
not_91 (inr (inr e)) = omega (arith, e)

not_92 : IsUnfiled 92 → ⊥
not_92 (inl e) = omega (arith, e)
not_92 (inr (inl e)) = omega (arith, e)
not_92 (inr (inr e)) = omega (arith, e)

whole_91 : (s : Standing) (t : ℕ) (early : Bool) (at_begin : BeginState) (a : Answer) (new : Standing)
    → FinishWhole s t early at_begin a new → a ≡ refused 91 None → ⊥
whole_91 s t true at_begin a new h e = let same = one_number 92 91 None None (sym h.0 ∙ e) in omega (arith, same)
whole_91 s t false at_begin a new h e = not_91 (whole_number s t at_begin a new 91 h e)

finish_91 : (s : Standing) (t : ℕ) (f : Option Flight) (a : Answer) (new : Standing) → FinishStep s t f a new → (a ≡ refused 91 None) ↔ (f ≡ None)
finish_91 s t None a new h = (λ _. refl, λ _. h.0)
finish_91 s t (Some f) a new h = (λ e. absurd (whole_91 s t _ f.at_begin a new h e), λ e. absurd (none_some f (sym e)))

pub no_ticket_to_finish : (s : Standing) (t : ℕ) (a : Answer) (new : Standing) → Step s (finish t) a new
    → (a ≡ refused 91 None) ↔ (flight_of t s.flights ≡ None)
unfolding Step
no_ticket_to_finish s t a new h = finish_91 s t (flight_of t s.flights) a new h

whole_92 : (s : Standing) (t m n : ℕ) (early : Bool) (at_begin : BeginState) (a : Answer) (new : Standing)
    → nat_lt m n ≡ early → FinishWhole s t early at_begin a new → (a ≡ refused 92 None) ↔ (m < n)
whole_92 s t m n true at_begin a new is h = (λ _. grind (arith, nat_tests, is), λ _. h.0)
whole_92 s t m n false at_begin a new is h = (
  λ e. absurd (not_92 (whole_number s t at_begin a new 92 h e)),
  λ lt.
      absurd (grind (arith, nat_tests, is, lt)),
)

-- a finish of a capture in flight, in terms of that capture
pub finish_of : (s : Standing) (t : ℕ) (a : Answer) (new : Standing) (f : Flight) → Step s (finish t) a new
    → flight_of t s.flights ≡ Some f → FinishWhole s t (nat_lt f.granted f.run_length) f.at_begin a new
unfolding Step
finish_of s t a new f h e = let P : Option Flight → Type 0 = λ x. FinishStep s t x a new in subst P e h

pub too_early : (s : Standing) (t : ℕ) (a : Answer) (new : Standing) (f : Flight) → Step s (finish t) a new
    → flight_of t s.flights ≡ Some f → (a ≡ refused 92 None) ↔ (f.granted < f.run_length)
too_early s t a new f h e = whole_92 s t f.granted f.run_length _ f.at_begin a new refl (finish_of s t a new f h e)

-- ---- beginnings

-- what each verdict on a beginning says
abbrev Says : (count last moment size : ℕ) → Option ℕ → Type 0
Says count last moment size None = (moment ≤ last_moment) × (size ≤ greatest_message) × (count < most_in_flight) × (last < last_ticket)
Says count last moment size (Some n) =
    ((n ≡ 94) × (last_moment < moment))
    ⊎ (((n ≡ 95) × (greatest_message < size))
    ⊎ (((n ≡ 90) × (moment ≤ last_moment) × (size ≤ greatest_message) × (most_in_flight ≤ count))
    ⊎ ((n ≡ 97) × (moment ≤ last_moment) × (size ≤ greatest_message) × (count < most_in_flight) × (last_ticket ≤ last))))

verdict : (count last moment size : ℕ) → Says count last moment size (begin_refusal count last moment size)
verdict count last moment size =
    go (nat_lt last_moment moment) (nat_lt greatest_message size) (nat_le most_in_flight count)
    (nat_le last_ticket last) refl refl refl refl
  where
    go : (late long many used : Bool) → nat_lt last_moment moment ≡ late → nat_lt greatest_message size ≡ long
        → nat_le most_in_flight count ≡ many → nat_le last_ticket last ≡ used
        → Says count last moment size (if late then Some 94 else if long then Some 95 else if many then Some 90 else if
        used then Some 97 else None)
    go true long many used a b c d = inl (refl, grind (arith, nat_tests, a))
    go false true many used a b c d = inr (inl (refl, grind (arith, nat_tests, b)))
    go false false true used a b c d = inr (inr (inl (refl, grind (arith, nat_tests, a), grind (arith, nat_tests, b), grind (arith, nat_tests, c))))
    go false false false true a b c d =
        inr (inr (inr (
          refl,
          grind (arith, nat_tests, a),
          grind (arith, nat_tests, b),
          grind (arith, nat_tests, c),
          grind (arith, nat_tests, d),
        )))
    go false false false false a b c d = (
      grind (arith, nat_tests, a),
      grind (arith, nat_tests, b),
      grind (arith, nat_tests, c),
      grind (arith, nat_tests, d),
    )

says_of : (count last moment size : ℕ) (r : Option ℕ) → begin_refusal count last moment size ≡ r → Says count last moment size r
says_of count last moment size r e = let P : Option ℕ → Type 0 = Says count last moment size in subst P e (verdict count last moment size)

-- there is room for one more capture, and a ticket
pub allowed_room : (count last moment size : ℕ) → begin_refusal count last moment size ≡ None → (count < most_in_flight) × (last < last_ticket)
allowed_room count last moment size e = let says = says_of count last moment size None e in (says.2, says.3)

says_90 : (count last moment size : ℕ) → Says count last moment size (Some 90) → (moment ≤ last_moment)
    × (size ≤ greatest_message) × (most_in_flight ≤ count)
says_90 count last moment size (inl h) = absurd (omega (arith, h.0))
says_90 count last moment size (inr (inl h)) = absurd (omega (arith, h.0))
says_90 count last moment size (inr (inr (inl h))) = (h.1, h.2, h.3)
says_90 count last moment size (inr (inr (inr h))) = absurd (omega (arith, h.0))

says_97 : (count last moment size : ℕ) → Says count last moment size (Some 97) → (moment ≤ last_moment)
    × (size ≤ greatest_message) × (count < most_in_flight) × (last_ticket ≤ last)
says_97 count last moment size (inl h) = absurd (omega (arith, h.0))
says_97 count last moment size (inr (inl h)) = absurd (omega (arith, h.0))
says_97 count last moment size (inr (inr (inl h))) = absurd (omega (arith, h.0))
says_97 count last moment size (inr (inr (inr h))) = (h.1, h.2, h.3, h.4)

is_90 : (count last moment size : ℕ) (r : Option ℕ) → moment ≤ last_moment → size ≤ greatest_message
    → most_in_flight ≤ count → Says count last moment size r → r ≡ Some 90
is_90 count last moment size None a b c h = absurd (omega (arith, c, h.2))
is_90 count last moment size (Some n) a b c (inl h) = absurd (omega (arith, a, h.1))
is_90 count last moment size (Some n) a b c (inr (inl h)) = absurd (omega (arith, b, h.1))
is_90 count last moment size (Some n) a b c (inr (inr (inl h))) = ap Some h.0
is_90 count last moment size (Some n) a b c (inr (inr (inr h))) = absurd (omega (arith, c, h.3))

is_97 : (count last moment size : ℕ) (r : Option ℕ) → moment ≤ last_moment → size ≤ greatest_message
    → count < most_in_flight → last_ticket ≤ last → Says count last moment size r → r ≡ Some 97
is_97 count last moment size None a b c d h = absurd (omega (arith, d, h.3))
is_97 count last moment size (Some n) a b c d (inl h) = absurd (omega (arith, a, h.1))
is_97 count last moment size (Some n) a b c d (inr (inl h)) = absurd (omega (arith, b, h.1))
is_97 count last moment size (Some n) a b c d (inr (inr (inl h))) = absurd (omega (arith, c, h.3))
is_97 count last moment size (Some n) a b c d (inr (inr (inr h))) = ap Some h.0

-- a beginning is refused with its verdict
refused_with : (s : Standing) (officer : List ℕ) (moment : ℕ) (message : List ℕ) (a : Answer) (new : Standing) (n : ℕ)
    → BeginStep s officer moment message a new → begin_refusal (length s.flights) s.last moment (length message)
    ≡ Some n → a ≡ refused n None
refused_with s officer moment message (begun t b) new n h e = absurd (none_some n (sym h.allowed ∙ e))
refused_with s officer moment message (refused m at) new n (same, no_place, inl h) e = λ i. refused (some_is m n (sym h ∙ e) i) (no_place i)
refused_with s officer moment message (refused m at) new n (same, no_place, inr h) e = absurd (none_some n (sym h.0 ∙ e))
refused_with s officer moment message done new n h e = absurd h
refused_with s officer moment message (dry_run o) new n h e = absurd h
refused_with s officer moment message (running k) new n h e = absurd h
refused_with s officer moment message (ended k) new n h e = absurd h
refused_with s officer moment message (captured f ls) new n h e = absurd h
refused_with s officer moment message (listed ls) new n h e = absurd h

verdict_of : (s : Standing) (officer : List ℕ) (moment : ℕ) (message : List ℕ) (a : Answer) (new : Standing) (n : ℕ)
    → BeginStep s officer moment message a new → a ≡ refused n None → n ≢ 99
    → begin_refusal (length s.flights) s.last moment (length message) ≡ Some n
verdict_of s officer moment message (refused m at) new n (same, no_place, inl h) e d = h ∙ ap Some (one_number m n at None e)
verdict_of s officer moment message (refused m at) new n (same, no_place, inr h) e d = absurd (d (sym (one_number m n at None e) ∙ h.1))
verdict_of s officer moment message (begun t b) new n h e d = absurd cc
verdict_of s officer moment message done new n h e d = absurd h
verdict_of s officer moment message (dry_run o) new n h e d = absurd h
verdict_of s officer moment message (running k) new n h e d = absurd h
verdict_of s officer moment message (ended k) new n h e d = absurd h
verdict_of s officer moment message (captured f ls) new n h e d = absurd h
verdict_of s officer moment message (listed ls) new n h e d = absurd h

not_99 : (n : ℕ) → n < 99 → n ≢ 99
not_99 n h e = omega (arith, h, e)

begin_90 : (s : Standing) (officer : List ℕ) (moment : ℕ) (message : List ℕ) (a : Answer) (new : Standing)
    → length s.flights ≤ most_in_flight → BeginStep s officer moment message a new
    → (a ≡ refused 90 None) ↔ ((length s.flights ≡ most_in_flight) × MayBegin moment message)
begin_90 s officer moment message a new most h =
    let count = length s.flights in
    let size = length message in (
      λ e. let says =
          says_90 count s.last moment size
          (says_of count s.last moment size (Some 90)
          (verdict_of s officer moment message a new 90 h e (not_99 90 (omega arith)))) in
          (omega (arith, most, says.2), (says.0, says.1)),
      λ x. refused_with s officer moment message a new 90 h
          (is_90 count s.last moment size (begin_refusal count s.last moment size) x.1.0 x.1.1 (omega (arith, x.0))
          (verdict count s.last moment size)),
    )

begin_97 : (s : Standing) (officer : List ℕ) (moment : ℕ) (message : List ℕ) (a : Answer) (new : Standing)
    → s.last ≤ last_ticket → BeginStep s officer moment message a new
    → (a ≡ refused 97 None) ↔ ((s.last ≡ last_ticket) × (length s.flights < most_in_flight) × MayBegin moment message)
begin_97 s officer moment message a new most h =
    let count = length s.flights in
    let size = length message in (
      λ e. let says =
          says_97 count s.last moment size
          (says_of count s.last moment size (Some 97)
          (verdict_of s officer moment message a new 97 h e (not_99 97 (omega arith)))) in
          (omega (arith, most, says.3), says.2, (says.0, says.1)),
      λ x. refused_with s officer moment message a new 97 h
          (is_97 count s.last moment size (begin_refusal count s.last moment size) x.2.0 x.2.1 x.1 (omega (arith, x.0))
          (verdict count s.last moment size)),
    )

pub too_many_in_flight : (s : Standing) (officer : List ℕ) (moment : ℕ) (message : List ℕ) (a : Answer) (new : Standing)
    → length s.flights ≤ most_in_flight → Step s (begin officer moment message) a new
    → (a ≡ refused 90 None) ↔ ((length s.flights ≡ most_in_flight) × MayBegin moment message)
unfolding Step
too_many_in_flight s officer moment message a new most h = begin_90 s officer moment message a new most h

pub tickets_used_up : (s : Standing) (officer : List ℕ) (moment : ℕ) (message : List ℕ) (a : Answer) (new : Standing)
    → s.last ≤ last_ticket → Step s (begin officer moment message) a new
    → (a ≡ refused 97 None) ↔ ((s.last ≡ last_ticket) × (length s.flights < most_in_flight) × MayBegin moment message)
unfolding Step
tickets_used_up s officer moment message a new most h = begin_97 s officer moment message a new most h
