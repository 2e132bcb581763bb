-- The fault of a capture that has come to its end.
use Rattle.std.proofs.Common.{◌≡◌, ◌<◌, ℕ, min, List, [], ◌∷◌, Bool, true, false, Option, Some, None, refl, arith}
use Rattle.std.proofs.Common.{ap, ◌∙◌, sym, subst, inl, inr}
use Rattle.std.specs.Prelude.{◌==◌, nat_lt, MatchBool}
use Rattle.std.proofs.lemmas.Bool.{false≢true}
use Rattle.std.proofs.lemmas.Bool.Decides.{nat_tests}
use Rattle.sieve_meaning.specs.declared.outcome.Outcome.{Outcome}
use Rattle.sieve_meaning.specs.declared.run_fault.RunFault.{RunFault}
use Rattle.sieve_meaning.specs.Case.{Facts}
use Rattle.filing_image.specs.Program.{Program}
use Rattle.filing_table.specs.Ends.{HasOutcome}
use Rattle.filing_table.proofs.Once.{one_outcome, one_step}
use Rattle.filing_machine.specs.declared.state.Progress.{Progress}
use Rattle.filing_machine.specs.declared.state.Progress.TheVariants.{Going, Ended}
use Rattle.filing_machine.specs.StateViews.{is_ended}
use Rattle.filing_machine.specs.Runs.{Snapshot, IsOnRun}
use Rattle.record_archive.specs.Archive.{Archive, Line}
use Rattle.desk_commands.specs.Answers.{Answer, captured, refused}
use Rattle.desk_commands.specs.Pinning.{BeginState, Choice, IsAlone, GivesOutcome, case_in, nothing, script, image_of}
use Rattle.desk_commands.specs.Standing.{Flight, Standing, Files, FinishStep, FinishWhole, IsPinned, Step, finish, flight_of}
use Rattle.desk_commands.proofs.Alone.{pinned_alone}
use Rattle.desk_flights.specs.FlightViews.{FlightView}
use Rattle.desk_flights.specs.Flights.{AreHeld}
use Rattle.desk_flights.proofs.Lengths.{running_before}
use Rattle.filing_desk.specs.Standing.{IsShownBy}
use Rattle.filing_desk.specs.Deliveries.{AnswersFault, HasFault, TellsFault}

-- ---- a capture has one outcome alone

chosen_once : (x : Choice) (s : BeginState) (a b : Outcome) → GivesOutcome x s.library (case_in s) a
    → GivesOutcome x s.library (case_in s) b → a ≡ b
chosen_once nothing s a b h k = h ∙ sym k
chosen_once (script name c) s a b h k = h ∙ sym k
chosen_once (image_of p) s a b h k = one_outcome p (case_in s) h.0 k.0 a b h.1 k.1

alone_once : (s : BeginState) (a b : Outcome) → IsAlone s a → IsAlone s b → a ≡ b
alone_once s a b h k = chosen_once s.program s a b h k

-- the fault that is answered is the one of the outcome alone
files_told : (old new : Archive) (s : BeginState) (told fault : Option RunFault) (lines : List Line) → HasFault s fault
    → Files old s (captured told lines) new → told ≡ fault
files_told old new s told fault lines h k =
    k.2 ∙ ap (λ (o : Outcome). o.fault) (alone_once s k.0 h.0 k.1 h.1) ∙ h.2

-- ---- what FINISH answers after a fault was reported

module _ (s new : Standing) (t : ℕ) where
  captured_whole : (early : Bool) (x : BeginState) (told fault : Option RunFault) (lines : List Line)
      → MatchBool early (fault ≡ None) (HasFault x fault) → FinishWhole s t early x (captured told lines) new → told ≡ fault
  captured_whole true x told fault lines h step = absurd (let no : captured told lines ≡ refused 92 None = step.0 in cc)
  captured_whole false x told fault lines h (inl step) = files_told s.office.archive step.0 x told fault lines h step.1
  captured_whole false x told fault lines h (inr step) =
      absurd (let no : captured told lines ≡ refused step.0 None = step.2 in cc)

  captured_found : (found : Option Flight) (told fault : Option RunFault) (lines : List Line) → TellsFault found fault
      → FinishStep s t found (captured told lines) new → told ≡ fault
  captured_found None told fault lines h step = absurd (let no : captured told lines ≡ refused 91 None = step.0 in cc)
  captured_found (Some f) told fault lines h step =
      captured_whole (nat_lt f.granted f.run_length) f.at_begin told fault lines h step

  -- a capture that FINISH answers has the fault that was reported
  pub captured_told : (told fault : Option RunFault) (lines : List Line) → TellsFault (flight_of t s.flights) fault
      → Step s (finish t) (captured told lines) new → told ≡ fault
  unfolding Step
  captured_told told fault lines h step = captured_found (flight_of t s.flights) told fault lines h step

  fault_filed : (b : Archive) (x : BeginState) (fault : RunFault) (a : Answer) → HasFault x (Some fault)
      → Files s.office.archive x a b → AnswersFault fault a
  fault_filed b x fault (captured told lines) h k = files_told s.office.archive b x told (Some fault) lines h k
  fault_filed b x fault (refused n at) h k = inl k.0
  fault_filed b x fault _ h k = absurd k

  fault_whole : (early : Bool) (x : BeginState) (fault : RunFault) (a : Answer)
      → MatchBool early (Some fault ≡ None) (HasFault x (Some fault)) → FinishWhole s t early x a new → AnswersFault fault a
  fault_whole true x fault a h step = absurd cc
  fault_whole false x fault a h (inl step) = fault_filed step.0 x fault a h step.1
  fault_whole false x fault a h (inr step) = subst (AnswersFault fault) (sym step.2) (inr step.1)

  fault_found : (found : Option Flight) (fault : RunFault) (a : Answer) → TellsFault found (Some fault)
      → FinishStep s t found a new → AnswersFault fault a
  fault_found None fault a h step = absurd cc
  fault_found (Some f) fault a h step = fault_whole (nat_lt f.granted f.run_length) f.at_begin fault a h step

  -- after a fault was reported, FINISH answers it, or is refused
  pub fault_answered : (fault : RunFault) (a : Answer) → TellsFault (flight_of t s.flights) (Some fault)
      → Step s (finish t) a new → AnswersFault fault a
  unfolding Step
  fault_answered fault a h step = fault_found (flight_of t s.flights) fault a h step

-- a fault is reported of a capture that has come to its end
pub told_of : (f : Flight) (fault : RunFault) → TellsFault (Some f) (Some fault) → HasFault f.at_begin (Some fault)
told_of f fault h = go (nat_lt f.granted f.run_length) h
  where
    go : (early : Bool) → MatchBool early (Some fault ≡ None) (HasFault f.at_begin (Some fault)) → HasFault f.at_begin (Some fault)
    go true e = absurd cc
    go false e = e

-- ---- the capture that is shown

pub held_pinned : (t : ℕ) (xs : List FlightView) (fs : List Flight) (f : Flight) → AreHeld xs fs → flight_of t fs ≡ Some f → IsPinned f
held_pinned t [] [] f a e = absurd (let none : ◌≡◌ {A = Option Flight} None (Some f) = e in cc)
held_pinned t (x ∷ xs) (g ∷ fs) f a e = go (g.ticket == t) refl (held_pinned t xs fs f a.1)
  where
    go : (b : Bool) → (g.ticket == t) ≡ b → (flight_of t fs ≡ Some f → IsPinned f) → IsPinned f
    go true is rest = let same : g ≡ f = let some : Some g ≡ Some f = rw is at e in cc in subst IsPinned same a.0.pinned
    go false is rest = rest (rw is at e)
held_pinned t [] (g ∷ fs) f a e = absurd a
held_pinned t (x ∷ xs) [] f a e = absurd a

-- the machine is on the run of what is pinned
on_pinned : (f : Flight) (p : Program) (m : Snapshot) → p ≡ f.pinned → IsOnRun p (case_in f.at_begin) m
    → IsOnRun f.pinned (case_in f.at_begin) m
on_pinned f p m e h = let P : Program → Type 0 = λ q. IsOnRun q (case_in f.at_begin) m in subst P e h

-- a machine that has an outcome shows its fault
pub told_at_end : (found : Option Flight) (p : Program) (m : Snapshot) (o : Outcome)
    → ((f : Flight) → found ≡ Some f → IsPinned f) → IsShownBy found p m
    → ((q : Program) (c : Facts) → IsOnRun q c m → HasOutcome q c m.steps o) → TellsFault found o.fault
told_at_end None p m o pinned shown of = absurd shown
told_at_end (Some f) p m o pinned shown of =
    let is = pinned f refl in
    let ran : HasOutcome f.pinned (case_in f.at_begin) m.steps o = of f.pinned (case_in f.at_begin) (on_pinned f p m shown.0 shown.1) in
    let same : m.steps ≡ f.run_length = one_step f.pinned (case_in f.at_begin) m.steps f.run_length o is.length.0 ran is.length.1 in
    let least : m.steps ≡ min f.granted f.run_length = shown.2 in
    let late : nat_lt f.granted f.run_length ≡ false = grind (arith, nat_tests, same, least) in
    rw late (o, pinned_alone f.at_begin f.pinned m.steps o is.pins ran, refl)

going : (progress : Progress) → is_ended progress ≡ false → progress ≡ Going
going Going e = refl
going (Ended fault) e = absurd (false≢true (sym e))

-- a machine that has not ended shows that the capture has not come to its end
pub told_before : (found : Option Flight) (p : Program) (m : Snapshot) → ((f : Flight) → found ≡ Some f → IsPinned f)
    → IsShownBy found p m → is_ended m.progress ≡ false → TellsFault found None
told_before None p m pinned shown off = absurd shown
told_before (Some f) p m pinned shown off =
    let is = pinned f refl in
    let less : m.steps < f.run_length = running_before f.pinned (case_in f.at_begin) m f.run_length is.length.0
    (going m.progress off) (on_pinned f p m shown.0 shown.1) is.length.1 in
    let least : m.steps ≡ min f.granted f.run_length = shown.2 in
    let early : nat_lt f.granted f.run_length ≡ true = grind (arith, nat_tests, less, least) in
    rw early refl

pub told_missing : (found : Option Flight) → found ≡ None → TellsFault found None
told_missing found e = rw e refl
