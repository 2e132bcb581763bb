-- Deliveries: the calls of a desk by which a message is captured, with their answers, and what is done on a fault.
use Rattle.std.specs.Prelude.{◌≡◌, ◌⊎◌, ℕ, zero, suc, ◌+◌, ◌≤◌, List, [], ◌∷◌, ◌++◌, Bool, true, false, ◌||◌, nat_lt, MatchBool}
use Rattle.std.specs.Prelude.{Option, Some, None, Result, Ok, Err}
use Rattle.sieve_meaning.specs.declared.outcome.Outcome.{Outcome}
use Rattle.sieve_meaning.specs.declared.run_fault.RunFault.{RunFault}
use Rattle.record_archive.specs.Calls.{Keeper}
use Rattle.desk_commands.specs.Answers.{Answer, begun, captured, ended, refused}
use Rattle.desk_commands.specs.ArchiveAnswers.{is_of_archive}
use Rattle.desk_commands.specs.CallAnswers.{answer_of_capture}
use Rattle.desk_commands.specs.Faults.{refused_by}
use Rattle.desk_commands.specs.Calls.{Leads}
use Rattle.desk_commands.specs.Office.{IsTrouble}
use Rattle.desk_commands.specs.Pinning.{BeginState, IsAlone}
use Rattle.desk_commands.specs.Standing.{Command, Flight, Standing, Step, begin, begin_state, finish, flight_of, turn}
use Rattle.desk_commands.specs.declared.fault.DeskFault.{DeskFault}
use Rattle.desk_commands.specs.declared.fault.DeskFault.TheVariants.{NoMemory}
use Rattle.filing_desk.specs.declared.deliveries.Delivery.{Delivery}
use Rattle.filing_desk.specs.declared.deliveries.Delivery.TheVariants.{Captured, GivenUp, OutOfTime}
use Rattle.filing_desk.specs.declared.deliveries.OnFault.{OnFault}
use Rattle.filing_desk.specs.declared.deliveries.OnFault.TheVariants.{GiveUp, Capture}

-- a command and its answer
pub record Call : Type 0 where
  pub command : Command
  pub answer : Answer

-- calls, one after the other, lead from a state to this one
abbrev pub Goes : Standing → List Call → Standing → Type 0
Goes s [] new = new ≡ s
Goes s (c ∷ calls) new = (mid : Standing) × Step s c.command c.answer mid × Goes mid calls new

-- whether one of these answers comes from the archive
abbrev pub are_of_archive : List Call → Bool
are_of_archive [] = false
are_of_archive (c ∷ calls) = is_of_archive c.command c.answer || are_of_archive calls

-- A desk went through these calls. Where it is clean afterwards, it was clean before, and each state that it represented
-- leads by the calls to one that it represents. Only an answer of the archive needs that the desk is clean afterwards.
pub record Follows {D : Type 0} (keeper : Keeper D Standing) (old : D) (calls : List Call) (new : D) : Type 0 where
  pub was_clean : keeper.clean new → keeper.clean old
  pub leads : (are_of_archive calls ≡ true → keeper.clean new) → (s : Standing) → keeper.stands old s →
      Leads keeper new (Goes s calls)

-- The outcome of a capture alone, by the state at its beginning, has this fault, or none.
abbrev pub HasFault : BeginState → Option RunFault → Type 0
HasFault at_begin fault = (o : Outcome) × IsAlone at_begin o × (o.fault ≡ fault)

-- What is reported of a capture that is looked up: the fault of its outcome alone, where it has come to its end; and none
-- where it has not, or where no capture is found.
abbrev pub TellsFault : Option Flight → Option RunFault → Type 0
TellsFault None told = told ≡ None
TellsFault (Some f) told = MatchBool (nat_lt f.granted f.run_length) (told ≡ None) (HasFault f.at_begin told)

-- An answer to the FINISH of a capture whose run ended with this fault: the capture with this fault, or a refusal because
-- the numbers of records are used up (87), by the database (89) or for lack of memory (99).
abbrev pub AnswersFault : RunFault → Answer → Type 0
AnswersFault fault (captured told lines) = told ≡ Some fault
AnswersFault fault (refused n at) = (n ≡ 87) ⊎ IsTrouble n
AnswersFault fault _ = ⊥

-- ---- turns, and the patience that is asked between them

-- the answer says that a run has come to its end
abbrev pub tells_end : Answer → Bool
tells_end (ended steps) = true
tells_end _ = false

module _ {P : Type 0} (asked : P → Bool → P → Type 0) where
  -- A patience was asked so many times, one after the other, and was never over.
  abbrev pub Lasts : (old : P) → (times : ℕ) → (new : P) → Type 0
  Lasts old zero new = new ≡ old
  Lasts old (suc n) new = (mid : P) × Lasts old n mid × asked mid false new

-- The turns that a capture made of its budget, and what the last of them was answered. Between any two of them the
-- patience was asked, and it lasted.
pub record MadeTurns {P : Type 0} (asked : P → Bool → P → Type 0) (old : P) (budget : ℕ) (new : P) : Type 0 where
  pub made : ℕ
  pub last : Answer
  pub times : ℕ
  pub within : made ≤ budget
  pub between : made ≤ times + 1
  pub lasts : Lasts asked old times new

-- as many turns as the budget were made, or up to the end of the run
abbrev pub IsWhole : (budget made : ℕ) → (last : Answer) → Type 0
IsWhole budget made last = (made ≡ budget) ⊎ (tells_end last ≡ true)

-- a call that grants turns to a capture
abbrev pub turns : (ticket made : ℕ) → Answer → Call
turns t made last = record { command = turn t made; answer = last }

module _ {D P : Type 0} (keeper : Keeper D Standing) (asked : P → Bool → P → Type 0) (old : D) (t budget : ℕ) (before : P) where
  -- A capture makes its turns, as it would make them by one call. They are all made; or the patience was over; or the last
  -- of them was refused.
  abbrev pub MakesTurns : Result Bool DeskFault → (after : P) → (new : D) → Type 0
  MakesTurns (Ok true) after new = (run : MadeTurns asked before budget after) × IsWhole budget run.made run.last
      × Follows keeper old (turns t run.made run.last ∷ []) new
  MakesTurns (Ok false) after new = (mid : P) × (run : MadeTurns asked before budget mid) × asked mid true after
      × Follows keeper old (turns t run.made run.last ∷ []) new
  MakesTurns (Err f) after new = (run : MadeTurns asked before budget after) × (run.last ≡ refused_by f)
      × Follows keeper old (turns t run.made run.last ∷ []) new

-- what a delivery is of: an officer, a moment and a message
module _ (officer : List ℕ) (moment : ℕ) (message : List ℕ) where
  -- BEGIN, with a ticket and a budget
  abbrev pub begins : (ticket budget : ℕ) → Call
  begins t b = record { command = begin officer moment message; answer = begun t b }

  -- BEGIN, and turns of its run
  abbrev pub first_calls : (ticket budget made : ℕ) → Answer → List Call
  first_calls t b made last = begins t b ∷ turns t made last ∷ []

  module _ {P : Type 0} (asked : P → Bool → P → Type 0) (before after : P) where
    -- BEGIN and all turns of its run were answered, and the patience lasted.
    abbrev pub AreWhole : (ticket : ℕ) → List Call → Type 0
    AreWhole t calls = (b : ℕ) × (run : MadeTurns asked before b after) × IsWhole b run.made run.last
        × (calls ≡ first_calls t b run.made run.last)

    -- BEGIN and turns of its run were answered, and then the patience was over.
    abbrev pub AreCutOff : (ticket : ℕ) → List Call → Type 0
    AreCutOff t calls = (b : ℕ) × (mid : P) × (run : MadeTurns asked before b mid) × asked mid true after
        × (calls ≡ first_calls t b run.made run.last)

    -- BEGIN and its turns were answered while the patience lasted, or the patience was over, or the first of these calls
    -- that was refused is the refusal.
    abbrev pub AreFirst : Result (Option ℕ) DeskFault → List Call → Type 0
    AreFirst (Ok (Some t)) calls = AreWhole t calls
    AreFirst (Ok None) calls = (t : ℕ) × AreCutOff t calls
    AreFirst (Err f) calls =
        ((after ≡ before) × (calls ≡ record { command = begin officer moment message; answer = refused_by f } ∷ []))
        ⊎ ((t : ℕ) × (b : ℕ) × (run : MadeTurns asked before b after) × (run.last ≡ refused_by f)
        × (calls ≡ first_calls t b run.made run.last))

    -- the same, all turns answered, and FINISH
    abbrev pub AreAll : (finished : Answer) → List Call → Type 0
    AreAll finished calls = (t : ℕ) × (first : List Call) × AreWhole t first
        × (calls ≡ first ++ record { command = finish t; answer = finished } ∷ [])

    -- What was captured is what FINISH answered. A message that was given up has no FINISH; if that was for want of time,
    -- the patience was over. One that was refused has the refusal of its last call, or there was no memory to look for a
    -- fault.
    abbrev pub AreCalls : Result Delivery DeskFault → List Call → Type 0
    AreCalls (Ok (Captured c)) calls = AreAll (answer_of_capture (Ok c)) calls
    AreCalls (Ok (GivenUp fault)) calls = (t : ℕ) × AreWhole t calls
    AreCalls (Ok OutOfTime) calls = (t : ℕ) × AreCutOff t calls
    AreCalls (Err f) calls = AreFirst (Err f) calls ⊎ (AreAll (refused_by f) calls
        ⊎ ((f ≡ NoMemory) × ((t : ℕ) × AreWhole t calls)))

-- A message that was delivered in this state has this fault. In each state that the desk then represents, a FINISH of its
-- ticket, which is the next one, would be answered with this fault or refused. And where no capture had that ticket
-- before, as in each state of a session, the outcome of the capture alone, by the state at its BEGIN, has this fault.
pub record IsFaulty {D : Type 0} (keeper : Keeper D Standing) (s : Standing) (officer : List ℕ) (moment : ℕ)
    (message : List ℕ) (fault : RunFault) (new : D) : Type 0 where
  pub answers : (to after : Standing) (a : Answer) → keeper.stands new to → Step to (finish (s.last + 1)) a after →
      AnswersFault fault a
  pub alone : flight_of (s.last + 1) s.flights ≡ None → HasFault (begin_state s.office officer moment message) (Some fault)

module _ {D : Type 0} (keeper : Keeper D Standing) (old : D) where
  -- Each state that a desk represented leads to one with the same archive, scripts and programs.
  abbrev pub KeepsOffice : (new : D) → Type 0
  KeepsOffice new = (s : Standing) → keeper.stands old s → Leads keeper new (λ to. to.office ≡ s.office)

  module _ (officer : List ℕ) (moment : ℕ) (message : List ℕ) where
    -- What was to be done on a fault is done. Where messages are given up for a fault, one that was captured has none, on
    -- a clean disk, and one that was given up has the fault that is reported, on any disk. Else none is given up for a
    -- fault. Where the time was over, the archive is as it was.
    abbrev pub Heeds : Result Delivery DeskFault → OnFault → (new : D) → Type 0
    Heeds (Ok (Captured c)) GiveUp new = keeper.clean new → (s : Standing) → keeper.stands old s → c.fault ≡ None
    Heeds (Ok (GivenUp fault)) GiveUp new =
        (s : Standing) → keeper.stands old s → IsFaulty keeper s officer moment message fault new
    Heeds (Ok (Captured c)) Capture new = Unit {0}
    Heeds (Ok (GivenUp fault)) Capture new = ⊥
    Heeds (Ok OutOfTime) on_fault new = KeepsOffice new
    Heeds (Err f) on_fault new = Unit {0}

module _ {D P : Type 0} (keeper : Keeper D Standing) (asked : P → Bool → P → Type 0) (old : D) (officer : List ℕ) (moment : ℕ)
    (message : List ℕ) where
  abbrev pub BeginsCapture : (before : P) → Result (Option ℕ) DeskFault → (after : P) → (new : D) → Type 0
  BeginsCapture before result after new = (calls : List Call) × AreFirst officer moment message asked before after result calls
      × Follows keeper old calls new

  -- the desk went through the calls of a delivery, this is their result, and on a fault it was done as was said
  abbrev pub Delivers : OnFault → (before : P) → Result Delivery DeskFault → (after : P) → (new : D) → Type 0
  Delivers on_fault before result after new = (calls : List Call)
      × AreCalls officer moment message asked before after result calls
      × Follows keeper old calls new × Heeds keeper old officer moment message result on_fault new
