-- Which histories are lawful, on worked rows.
use Rattle.std.proofs.Common.{◌≡◌, ◌∷◌, [], List, None, codes, refl}
use Rattle.class_plan.specs.Plans.{first_plan}
use Rattle.record_archive.specs.Archive.{empty_archive}
use Rattle.record_history.specs.Events.{Deed, Event, FoundPlan, Held}
use Rattle.record_history.specs.Lines.{line_of, lines_from}
use Rattle.record_history.specs.Replay.{replay}
use Rattle.cli_history.specs.Lawful.{IsLawful}

abbrev event : Deed → Event
event deed = record { moment = 0; who = codes "ann"; deed = deed; notes = []; reason = [] }

no_event : IsLawful []
no_event = record { events = []; lines = refl; archive = empty_archive; replayed = refl; told_truly = tt }

begun : IsLawful (line_of 1 (event (FoundPlan first_plan)) ∷ [])
begun = record {
  events = event (FoundPlan first_plan) ∷ [];
  lines = refl;
  archive = empty_archive;
  replayed = refl;
  told_truly = (tt, λ b is. tt);
}

-- a hold on a record that is not there is not allowed
refused : replay (event (FoundPlan first_plan) ∷ event (Held (codes "audit") 4) ∷ []) empty_archive ≡ None
refused = refl
