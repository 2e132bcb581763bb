-- What a history says of an archive: it is a run of the archive's own commands, with the seal of each message in the place of
-- its octets.
use Rattle.std.specs.Prelude.{◌≡◌, ℕ, ◌==◌, ◌++◌, if◌then◌else◌, List, [], ◌∷◌, map, length, Option, Some, None, option_and_then, Result, Ok, Err}
use Rattle.sha2.specs.Sha256.{sha256}
use Rattle.hex.specs.Hex.{encode_lower}
use Rattle.class_plan.specs.Plans.{schedule_at}
use Rattle.record_archive.specs.Archive.{Archive, Message, Record, Hold, empty_archive, next_number, record_at, capture, hold, release, destroy, add_class, revise}
use Rattle.record_archive.specs.Refiling.{refile}
use Rattle.record_archive.specs.declared.fault.ArchiveRefusal.{ArchiveRefusal}
use Rattle.record_history.specs.Events.{Event, Deed, Seal}
use Rattle.record_history.specs.Events.{Captured, Held, Released, Destroyed, ClassAdded, PlanReplaced, FoundPlan, FoundMessage, FoundRecord, FoundHold}
use Rattle.record_history.specs.Events.{ReasonsRequired, ReasonsOptional, FindingsAccepted, Refiled, Titled}
use Rattle.record_history.specs.Lines.{seal_text}

-- the seal of a message
abbrev pub seal : List ℕ → Seal
seal body = record { octets = length body; sum = encode_lower (sha256 body) }

abbrev pub sealed_message : Message → Message
sealed_message m = record { number = m.number; body = seal_text (seal m.body) }

-- the archive with the seal of each message in its place
abbrev pub sealed : Archive → Archive
sealed a = record a { messages = map sealed_message a.messages }

-- the archive that a command makes, if it makes one
abbrev pub made : Result Archive ArchiveRefusal → Option Archive
made (Ok a) = Some a
made (Err f) = None

abbrev pub with_message : Archive → Message → Archive
with_message a m = record a { messages = a.messages ++ m ∷ [] }

abbrev pub with_record : Archive → Record → Archive
with_record a r = record a { records = a.records ++ r ∷ [] }

abbrev pub with_found_hold : Archive → Hold → Archive
with_found_hold a h = record a { holds = a.holds ++ h ∷ [] }

-- What a deed makes of a sealed archive; nothing where the archive refuses it. A plan that is found begins the archive
-- anew, and what is found after it is put beside it.
abbrev pub after : Deed → Archive → Option Archive
after (Captured first seal day filing paths) a = if first == next_number a then made (capture a (seal_text seal) day paths) else None
after (Held name n) a = made (hold a name n)
after (Released name n) a = made (release a name n)
after (Destroyed n day schedule) a = made (destroy a n day)
after (Refiled n path) a = made (refile a n path)
after (ClassAdded path) a = made (add_class a path)
after (PlanReplaced p) a = made (revise a p)
after (Titled path title basis) a = Some a
after ReasonsRequired a = Some a
after ReasonsOptional a = Some a
after FindingsAccepted a = Some a
after (FoundPlan p) a = Some (record empty_archive { plan = p })
after (FoundMessage n seal) a = Some (with_message a (record { number = n; body = seal_text seal }))
after (FoundRecord r) a = Some (with_record a r)
after (FoundHold name n) a = Some (with_found_hold a (record { name = name; number = n }))

-- what events make of a sealed archive
abbrev pub replay : List Event → Archive → Option Archive
replay [] a = Some a
replay (e ∷ es) a = option_and_then (replay es) (after e.deed a)

-- THE EVENTS EXPLAIN THE ARCHIVE: each was lawful when it came, and together they make the archive, with the seals of its
-- messages
abbrev pub Explains : List Event → Archive → Type 0
Explains es a = replay es empty_archive ≡ Some (sealed a)

-- what a deed says of its record beside the command is true: the schedule is that of the record's class
abbrev pub IsTrueOf : Deed → Archive → Type 0
IsTrueOf (Destroyed n day schedule) a = (r : Record) → record_at a n ≡ Some r → schedule_at a.plan r.path ≡ Some schedule
IsTrueOf _ a = Unit {0}
