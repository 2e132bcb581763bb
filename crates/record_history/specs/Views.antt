-- The events of the code, as plain events.
use Rattle.std.specs.Prelude.{map, option_map}
use Rattle.class_plan.specs.Plans.{Listing}
use Rattle.class_plan.specs.Parts.{answer_row}
use Rattle.record_history.specs.Events.{Event, Deed, Seal, Filing}
use Rattle.record_history.specs.Events as plain
use Rattle.record_history.specs.declared.events.Seal as seals
use Rattle.record_history.specs.declared.events.Filing as filings
use Rattle.record_history.specs.declared.events.Listing as listings
use Rattle.record_history.specs.declared.events.Deed as deeds
use Rattle.record_history.specs.declared.events.Deed.TheVariants.{Captured, Held, Released, Destroyed, ClassAdded, PlanReplaced, FoundPlan, FoundMessage, FoundRecord, FoundHold}
use Rattle.record_history.specs.declared.events.Deed.TheVariants.{ReasonsRequired, ReasonsOptional, FindingsAccepted, Refiled, Titled}
use Rattle.record_history.specs.declared.events.Event as events

abbrev pub seal_view : seals.Seal → Seal
seal_view s = record { octets = s.octets; sum = s.sum.items }

abbrev pub filing_view : filings.Filing → Filing
filing_view f = record { officer = f.officer.now; rules = f.rules.now }

abbrev pub listing_view : listings.Listing → Listing
listing_view l = record { root = l.root; rows = map answer_row l.classes.items }

abbrev pub deed_view : deeds.Deed → Deed
deed_view (Captured first seal day filing paths) = plain.Captured first (seal_view seal) day (option_map filing_view filing) (map (λ p. p.now)
    paths.items)
deed_view (Held name n) = plain.Held name.now n
deed_view (Released name n) = plain.Released name.now n
deed_view (Destroyed n day schedule) = plain.Destroyed n day schedule
deed_view (Refiled n path) = plain.Refiled n path.now
deed_view (ClassAdded path) = plain.ClassAdded path.now
deed_view (PlanReplaced p) = plain.PlanReplaced (listing_view p)
deed_view (Titled path title basis) = plain.Titled path.now title.now basis.now
deed_view ReasonsRequired = plain.ReasonsRequired
deed_view ReasonsOptional = plain.ReasonsOptional
deed_view FindingsAccepted = plain.FindingsAccepted
deed_view (FoundPlan p) = plain.FoundPlan (listing_view p)
deed_view (FoundMessage n seal) = plain.FoundMessage n (seal_view seal)
deed_view (FoundRecord n message path day destroyed) = plain.FoundRecord (record {
  number = n;
  message = message;
  path = path.now;
  day = day;
  destroyed = destroyed;
})
deed_view (FoundHold name n) = plain.FoundHold name.now n

abbrev pub event_view : events.Event → Event
event_view e = record { moment = e.moment; who = e.who.now; deed = deed_view e.deed; notes = e.notes.now; reason = e.reason.now }
