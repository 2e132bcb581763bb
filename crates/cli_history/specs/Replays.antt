-- What a history tells once its events are done again.
use Rattle.std.specs.Prelude.{◌≡◌, ◌+◌, ℕ, Bool, false, List, [], ◌∷◌, map, Option, Some, None, option_map, is_some, IfSome}
use Rattle.record_history.specs.Events.{Event, Seal}
use Rattle.record_history.specs.Reading.{event_at}
use Rattle.record_judge.specs.Judging.{Judges}
use Rattle.cli_history.specs.Findings.{stage_of}
use Rattle.cli_history.specs.Reasons.{are_required, ends}
use Rattle.cli_history.specs.Seals.{known, later, sealed_by}
use Rattle.cli_history.specs.declared.opening.Purpose.{Purpose}
use Rattle.cli_history.specs.declared.replaying.Replayed.{Replayed}
use Rattle.cli_history.specs.declared.seals.Seals.{Seals}

-- the event that a line tells, if it is the line of one
abbrev pub told_by : List ℕ → Option Event
told_by line = option_map (λ x. x.1) (event_at line)

-- THE LINES TELL THESE EVENTS, each line the one at its place
abbrev pub Tell : List (List ℕ) → List Event → Type 0
Tell lines events = map told_by lines ≡ map (λ e. Some e) events

-- REASONS ARE REQUIRED after some events, by whether they were before them
abbrev pub required_after : Bool → List Event → Bool
required_after before [] = before
required_after before (e ∷ es) = required_after (are_required before e.deed) es

-- THE SEAL OF A MESSAGE as events tell it, of which the first has this number: the last event that tells one counts
abbrev pub sealed_in : (first : ℕ) → List Event → (message : ℕ) → Option (Seal × ℕ)
sealed_in first [] message = None
sealed_in first (e ∷ es) message = later (sealed_in (first + 1) es message) (sealed_by first e.deed message)

-- the seals are those that the events tell
abbrev pub AreSeals : Seals → List Event → Type 0
AreSeals seals events = (message : ℕ) → known seals message ≡ sealed_in 1 events message

-- THE HISTORY OF THESE LINES REQUIRES REASONS, or does not, by the events that they tell
pub record RequiresReasons (lines : List (List ℕ)) (is_so : Bool) : Type 0 where
  pub events : List Event
  pub tell : Tell lines events
  pub required : is_so ≡ required_after false events

-- THE HISTORY OF THESE LINES WAS DONE AGAIN: each line tells an event, which was lawful when it came; what was found, whether
-- reasons are required, and the seals, which are kept where the purpose can end the keeping of records, are what these say
pub record Replays (purpose : Purpose) (r : Replayed) (lines : List (List ℕ)) : Type 0 where
  pub judged : Judges r.judge lines
  pub events : List Event
  pub tell : Tell lines events
  pub stage : r.findings.stage ≡ stage_of events
  pub reasons : r.requires_reasons ≡ required_after false events
  pub kept : is_some r.seals ≡ ends purpose
  pub seals : IfSome r.seals (λ s. AreSeals s events)
