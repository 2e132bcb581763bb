-- What a program that keeps no history has left, and whether a person has accepted it.
use Rattle.std.specs.Prelude.{ℕ, ◌&&◌, ◌||◌, not, if◌then◌else◌, Bool, true, false, List, [], ◌∷◌, codes}
use Rattle.std.specs.List.{list_any}
use Rattle.std.specs.Str.{bytes_eq}
use Rattle.record_history.specs.Events.{Deed, Event, Captured, Held, Released, Refiled, Destroyed, ClassAdded, PlanReplaced, Titled}
use Rattle.record_history.specs.Events.{ReasonsRequired, ReasonsOptional, FindingsAccepted, FoundPlan, FoundMessage, FoundRecord, FoundHold}
use Rattle.cli_history.specs.declared.findings.Bearing.{Bearing}
use Rattle.cli_history.specs.declared.findings.Bearing.TheVariants.{Plan, Detail, Acceptance, Neither}
use Rattle.cli_history.specs.declared.findings.Stage.{Stage}
use Rattle.cli_history.specs.declared.findings.Stage.TheVariants.{Unbegun, Beginning, Settled, Unaccepted}
use Rattle.cli_history.specs.declared.opening.Purpose.{Purpose}
use Rattle.cli_history.specs.Reasons.{ends}

-- what a deed says of findings: a plan that was found, which comes first; what was found beside it; that a person accepts what
-- was found; or nothing
abbrev pub bearing : Deed → Bearing
bearing (FoundPlan plan) = Plan
bearing (FoundMessage n seal) = Detail
bearing (FoundRecord r) = Detail
bearing (FoundHold name n) = Detail
bearing FindingsAccepted = Acceptance
bearing (Captured first seal day filing paths) = Neither
bearing (Held name n) = Neither
bearing (Released name n) = Neither
bearing (Refiled n path) = Neither
bearing (Destroyed n day schedule) = Neither
bearing (ClassAdded path) = Neither
bearing (PlanReplaced plan) = Neither
bearing (Titled path title basis) = Neither
bearing ReasonsRequired = Neither
bearing ReasonsOptional = Neither

abbrev pub is_plan : Bearing → Bool
is_plan Plan = true
is_plan Detail = false
is_plan Acceptance = false
is_plan Neither = false

abbrev pub is_detail : Bearing → Bool
is_detail Plan = false
is_detail Detail = true
is_detail Acceptance = false
is_detail Neither = false

abbrev pub is_acceptance : Bearing → Bool
is_acceptance Plan = false
is_acceptance Detail = false
is_acceptance Acceptance = true
is_acceptance Neither = false

abbrev pub is_found : Bearing → Bool
is_found b = is_plan b || is_detail b

-- who stands for a program that keeps no history
abbrev pub is_unknown : List ℕ → Bool
is_unknown who = bytes_eq who (codes "unknown")

-- the event begins a history: a person has found a plan
abbrev pub begins : Event → Bool
begins e = is_plan (bearing e.deed) && not (is_unknown e.who)

abbrev pub accepts : Event → Bool
accepts e = is_acceptance (bearing e.deed)

-- what comes behind all that was found directly beside a plan
abbrev pub behind_details : List Event → List Event
behind_details [] = []
behind_details (e ∷ es) = if is_detail (bearing e.deed) then behind_details es else (e ∷ es)

-- what comes behind the beginning
abbrev pub behind_beginning : List Event → List Event
behind_beginning [] = []
behind_beginning (e ∷ es) = if begins e then behind_details es else (e ∷ es)

-- one of these events was found, and none behind it accepts that
abbrev pub has_unaccepted : List Event → Bool
has_unaccepted [] = false
has_unaccepted (e ∷ es) = has_unaccepted es || (is_found (bearing e.deed) && not (list_any accepts es))

-- SOMETHING THAT WAS FOUND IS NOT ACCEPTED: an event behind the beginning was found, and none behind it accepts that
abbrev pub is_unaccepted : List Event → Bool
is_unaccepted es = has_unaccepted (behind_beginning es)

-- WHAT IS REFUSED: it can end the keeping of records, and something that was found is not accepted
abbrev pub is_blocked : Purpose → List Event → Bool
is_blocked p es = ends p && is_unaccepted es

-- The same, an event at a time. The stage after an event behind the beginning:
abbrev pub stage_behind : (is_open : Bool) → Bearing → Stage
stage_behind is_open Plan = Unaccepted
stage_behind is_open Detail = Unaccepted
stage_behind is_open Acceptance = Settled
stage_behind is_open Neither = if is_open then Unaccepted else Settled

abbrev pub stage_step : Stage → (is_unknown : Bool) → Bearing → Stage
stage_step Unbegun unknown b = if is_plan b && not unknown then Beginning else stage_behind false b
stage_step Beginning unknown b = if is_detail b then Beginning else stage_behind false b
stage_step Settled unknown b = stage_behind false b
stage_step Unaccepted unknown b = stage_behind true b

abbrev pub stage_after : Stage → Event → Stage
stage_after s e = stage_step s (is_unknown e.who) (bearing e.deed)

-- the stage after some events, from one on
abbrev pub stage_from : Stage → List Event → Stage
stage_from s [] = s
stage_from s (e ∷ es) = stage_from (stage_after s e) es

abbrev pub stage_of : List Event → Stage
stage_of es = stage_from Unbegun es

abbrev pub is_open_at : Stage → Bool
is_open_at Unbegun = false
is_open_at Beginning = false
is_open_at Settled = false
is_open_at Unaccepted = true
