-- How a capture begins at a desk.
use Rattle.std.proofs.Common.{◌≡◌, ◌<◌, ◌≤◌, ℕ, ◌+◌, ◌/◌, List, [], ◌∷◌, ◌++◌, length, pos, Bool, true, false, arith}
use Rattle.std.proofs.Common.{Option, Some, None, Result, Ok, Err, inl, inr, refl, ap, sym, ◌∙◌, subst}
use Rattle.std.specs.Prelude.{nat_le, nat_lt}
use Rattle.std.specs.List.{AllByRecursion}
use Rattle.std.proofs.lemmas.Bool.Decides.{nat_tests}
use Rattle.std.specs.Result.{IsErr, IsErrAnd}
use Rattle.std.proofs.lemmas.Bool.{false≢true}
use Rattle.jiff.specs.Words.{epoch_day}
use Rattle.jiff_core.specs.declared.civil.date.Date.{Date}
use Rattle.class_plan.specs.Plans.{Listing, is_open_in}
use Rattle.mail_case.specs.Message.{is_among}
use Rattle.filing_image.specs.Program.{Program}
use Rattle.record_archive.specs.Archive.{Archive}
use Rattle.record_archive.specs.Calls.{Keeper}
use Rattle.desk_commands.specs.Answers.{Answer, begun, refused}
use Rattle.desk_commands.specs.Calls.{Calls}
use Rattle.desk_commands.specs.Faults.{refusal_of, refused_by}
use Rattle.desk_commands.specs.Limits.{greatest_message, last_moment, last_ticket, most_in_flight}
use Rattle.desk_commands.specs.Office.{Office}
use Rattle.desk_commands.specs.Pinning.{Pins, PinsChoice, choice_by}
use Rattle.desk_commands.specs.Scripts.{library, meanings_of}
use Rattle.desk_commands.specs.Standing.{Standing, Flight, Step, BeginStep, begin, begin_refusal, begin_state}
use Rattle.desk_commands.specs.CallAnswers.{answer_of_ticket}
use Rattle.desk_commands.specs.declared.fault.DeskFault.{DeskFault}
use Rattle.desk_commands.specs.declared.fault.DeskFault.TheVariants.{NoMemory}
use Rattle.desk_flights.specs.Begun.{HoldsBegun}
use Rattle.desk_flights.specs.Flights.{Adds, AreHeld}
use Rattle.desk_flights.specs.FlightViews.{FlightView, Holds}
use Rattle.desk_flights.specs.Laws.{AreAsMany, OpenPathsAreClasses}
use Rattle.desk_officers.specs.Register.{PinsFor, officer_at}
use Rattle.filing_desk.specs.Beginning.{IsNewFlight, IsNumbered, KeepsAll, against_begin}
use Rattle.filing_desk.specs.Standing.{AreOpenPaths, HasPathsOf, StandsFor, desk_keeper}
use Rattle.filing_desk.specs.declared.desk.Desk.{Desk}
use Rattle.filing_desk.proofs.FirstLemmas.{RunsEnd, after_begin, begins, first_begun, first_flight}
use Rattle.filing_desk.proofs.StepLemmas.{cleans, untouched}
use Rattle.filing_desk.proofs.FlightLemmas.{reflies}
use Rattle.filing_desk.proofs.ReasonLemmas.{allowed, refused_count, refused_length, refused_ticket}

-- the answer to a fault
pub ticket_fault : (result : Result (ℕ × ℕ) DeskFault) (fault : DeskFault) → IsErr result
    → IsErrAnd result (λ f. f ≡ fault) → answer_of_ticket result ≡ refused_by fault
ticket_fault (Err f) fault is same = ap refused_by same
ticket_fault (Ok t) fault is same = absurd (false≢true is)

-- a numbered fault, as it is answered
numbered : (f : DeskFault) (n : Option ℕ) → IsNumbered f n → refused_by f ≡ refused (refusal_of f).number None
numbered f n h = ap (refused (refusal_of f).number) h.1

-- ---- what is judged, from the first

pub judged_length : (count last moment size : ℕ) (long : Bool) → moment ≤ last_moment
    → long ≡ nat_lt greatest_message size → long ≡ true → begin_refusal count last moment size ≡ Some 95
judged_length count last moment size long h is held =
    refused_length count last moment size h (let l : nat_lt greatest_message size ≡ true = sym is
    ∙ held in grind (arith, nat_tests, l))

short : (size : ℕ) (long : Bool) → long ≡ nat_lt greatest_message size → long ≡ false → size ≤ greatest_message
short size long is off = let l : nat_lt greatest_message size ≡ false = sym is ∙ off in grind (arith, nat_tests, l)

few : (count : ℕ) (full : Bool) → full ≡ nat_le most_in_flight count → full ≡ false → count < most_in_flight
few count full is off = let l : nat_le most_in_flight count ≡ false = sym is ∙ off in grind (arith, nat_tests, l)

pub judged_count : (count last moment size : ℕ) (long full : Bool) → moment ≤ last_moment
    → long ≡ nat_lt greatest_message size → long ≡ false → full ≡ nat_le most_in_flight count → full ≡ true
    → begin_refusal count last moment size ≡ Some 90
judged_count count last moment size long full h is off full_is held =
    refused_count count last moment size h (short size long is off) (let l : nat_le most_in_flight count ≡ true =
    sym full_is ∙ held in grind (arith, nat_tests, l))

pub judged_ticket : (count last moment size : ℕ) (long full : Bool) → moment ≤ last_moment
    → long ≡ nat_lt greatest_message size → long ≡ false → full ≡ nat_le most_in_flight count → full ≡ false
    → last_ticket ≤ last → begin_refusal count last moment size ≡ Some 97
judged_ticket count last moment size long full h is off full_is not_full used =
    refused_ticket count last moment size h (short size long is off) (few count full full_is not_full) used

pub judged_allowed : (count last moment size : ℕ) (long full : Bool) → moment ≤ last_moment
    → long ≡ nat_lt greatest_message size → long ≡ false → full ≡ nat_le most_in_flight count → full ≡ false
    → last < last_ticket → begin_refusal count last moment size ≡ None
judged_allowed count last moment size long full h is off full_is not_full left =
    allowed count last moment size h (short size long is off) (few count full full_is not_full) left

-- ---- the flights

more_classes : (p : Listing) (fs : List Flight) (f : Flight) → AllByRecursion (HasPathsOf p) fs → HasPathsOf p f
    → AllByRecursion (HasPathsOf p) (fs ++ f ∷ [])
more_classes p [] f all here = (here, tt)
more_classes p (x ∷ fs) f all here = (all.0, more_classes p fs f all.1 here)

module _ {A : Type 0} (keeper : Keeper A Archive) (plan_of : A → Listing)
    (plan_is : (x : A) (a : Archive) → keeper.stands x a → plan_of x ≡ a.plan) (as_many : AreAsMany) where
  -- what refuses a beginning at the desk refuses one in the state
  against : (desk : Desk A) (s : Standing) (moment size : ℕ) → StandsFor keeper desk s
      → against_begin desk moment size ≡ begin_refusal (length s.flights) s.last moment size
  against desk s moment size stands =
      ap (λ n. begin_refusal n desk.last moment size) (as_many desk.flights s.flights stands.flights)
      ∙ ap (λ n. begin_refusal (length s.flights) n moment size) stands.last

  -- it is refused with that number
  pub begin_refused : (desk : Desk A) (officer : List ℕ) (moment : ℕ) (message : List ℕ) (f : DeskFault) (a : Answer)
      → IsNumbered f (against_begin desk moment (length message)) → a ≡ refused_by f
      → Calls (desk_keeper keeper) desk (begin officer moment message) a desk
  unfolding Step
  begin_refused desk officer moment message f a h is_told = record {
    was_clean = λ clean. clean;
    leads = λ sure s stands.
        let P : Answer → Type 0 = λ x. BeginStep s officer moment message x s in
        let step : BeginStep s officer moment message (refused (refusal_of f).number None) s =
        (refl, refl, inl (sym (against desk s moment (length message) stands) ∙ h.0)) in
        record { to = s; is_one = subst P (sym (is_told ∙ numbered f _ h)) step; there = stands };
    unchanged = λ from_archive. absurd (false≢true from_archive);
    crash = untouched keeper desk desk (begin officer moment message) refl;
    kept = λ from_archive. absurd (false≢true from_archive);
  }

  -- there is no memory
  pub begin_poor : (old new : Desk A) (officer : List ℕ) (moment : ℕ) (message : List ℕ) (f : DeskFault) (a : Answer)
      → against_begin old moment (length message) ≡ None → f ≡ NoMemory → a ≡ refused_by f → KeepsAll old new
      → ((p : Listing) → plan_of old.store ≡ p → AreOpenPaths old.open_paths p → AreOpenPaths new.open_paths p)
      → Calls (desk_keeper keeper) old (begin officer moment message) a new
  unfolding Step
  begin_poor old new officer moment message f a permitted none told same paths = record {
    was_clean = cleans keeper old new same.store;
    leads = λ sure s stands.
        let P : Answer → Type 0 = λ x. BeginStep s officer moment message x s in
        let Q : List FlightView → Type 0 = λ xs. AreHeld xs s.flights in
        let step : BeginStep s officer moment message (refused 99 None) s =
        (refl, refl, inr (sym (against old s moment (length message) stands) ∙ permitted, refl)) in
        record {
          to = s;
          is_one = subst P (sym (told ∙ ap (λ x. refused_by x) none)) step;
          there = reflies keeper old new s s.flights s.last same.store same.officers (same.last
              ∙ stands.last) (paths s.office.archive.plan (plan_is old.store s.office.archive stands.store)
              stands.open_paths) stands (subst Q (sym same.flights) stands.flights) stands.classes;
        };
    unchanged = λ from_archive. absurd (false≢true from_archive);
    crash = untouched keeper old new (begin officer moment message) same.store;
    kept = λ from_archive. absurd (false≢true from_archive);
  }

  -- what is pinned for an officer of the desk is what is pinned for what stands in the state
  pins_stood : (desk : Desk A) (s : Standing) (officer : List ℕ) (moment : ℕ) (message : List ℕ) (p : Program)
      → StandsFor keeper desk s
      → PinsFor (officer_at officer desk.officers.officers) (meanings_of desk.officers.globals) p
      → Pins (begin_state s.office officer moment message) p
  pins_stood desk s officer moment message p stands pins =
      let P : Office
      → Type 0 = λ o. PinsChoice (choice_by (o.officers officer).active (o.officers officer).scripts)
      (library (o.officers officer).scripts o.globals) p in
      subst P stands.officers pins

  pub begin_done : (are_there : OpenPathsAreClasses) (ends : RunsEnd) (old mid new : Desk A) (officer : List ℕ)
      (moment : ℕ) (message : List ℕ) (day : Date) (x : FlightView) (a : Answer)
      → against_begin old moment (length message) ≡ None → epoch_day day ≡ pos (moment / 86400) → KeepsAll old mid
      → (AreOpenPaths old.open_paths (plan_of old.store) → AreOpenPaths mid.open_paths (plan_of old.store))
      → (AreOpenPaths old.open_paths (plan_of old.store)
      → IsNewFlight (plan_of old.store) old officer (old.last + 1) message day x) → new.store ≡ mid.store
      → new.officers ≡ mid.officers → Adds mid.flights x new.flights → new.last ≡ old.last + 1
      → new.open_paths ≡ mid.open_paths → a ≡ begun (old.last + 1) x.program.budget
      → Calls (desk_keeper keeper) old (begin officer moment message) a new
  unfolding Step
  begin_done are_there ends old mid new officer moment message day x a permitted on same_all paths entered es eo adds el ep told = record {
    was_clean = cleans keeper old new (es ∙ same_all.store);
    leads = λ sure s stands.
        let plan = s.office.archive.plan in
        let P : Listing → Type 0 = λ p. AreOpenPaths old.open_paths p in
        let there = subst P (sym (plan_is old.store s.office.archive stands.store)) stands.open_paths in
        let h = entered there in
        let next : old.last + 1 ≡ s.last + 1 = ap (λ n. n + 1) stands.last in
        let at_begin = begin_state s.office officer moment message in
        let pins = pins_stood old s officer moment message h.program stands h.pins in
        let flight = first_flight ends (s.last + 1) at_begin h.program h.well in
        let opens : at_begin.is_open ≡ is_among h.paths =
        ap (λ p. is_open_in p) (sym (plan_is old.store s.office.archive stands.store)) ∙ sym h.open_paths in
        let first = first_begun ends (s.last + 1) at_begin h.program h.well h.paths day pins opens on in
        let H : ℕ → Type 0 = λ n. HoldsBegun n h.program message h.paths day x in
        let holds : Holds x flight = subst H next h.holds flight first in
        let was = sym (against old s moment (length message) stands) ∙ permitted in
        let begins_so = begins ends s officer moment message h.program h.well was pins in
        let to = after_begin s flight in
        let same : a ≡ begun (s.last + 1) h.program.budget = told ∙ ap (λ n. begun n x.program.budget) next
        ∙ ap (λ (q : Program). begun (s.last + 1) q.budget) holds.program in
        let B : Answer → Type 0 = λ y. BeginStep s officer moment message y to in
        let Q : List FlightView → Type 0 = λ xs. AreHeld xs s.flights in
        let T : Option (List (List ℕ)) → Type 0 = λ y. AreOpenPaths y plan in
        let U : Listing → Type 0 = λ p. AreOpenPaths mid.open_paths p in
        record {
          to = to;
          is_one = subst B (sym same) begins_so;
          there = reflies keeper old new s (s.flights ++ flight ∷ []) (s.last + 1) (es ∙ same_all.store) (eo
              ∙ same_all.officers) (el
              ∙ next) (subst T (sym ep) (subst U (plan_is old.store s.office.archive stands.store) (paths there)))
              stands (adds s.flights flight (subst Q (sym same_all.flights) stands.flights) holds)
              (more_classes plan s.flights flight stands.classes (λ q there. are_there plan q there));
        };
    unchanged = λ from_archive. absurd (false≢true from_archive);
    crash = untouched keeper old new (begin officer moment message) (es ∙ same_all.store);
    kept = λ from_archive. absurd (false≢true from_archive);
  }
