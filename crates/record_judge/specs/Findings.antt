-- The findings that restate an archive: the plan, and then each message, each record and each hold.
use Rattle.std.specs.Prelude.{◌≡◌, ◌+◌, ℕ, List, [], ◌∷◌, ◌++◌, map, length, Some}
use Rattle.record_archive.specs.Archive.{Archive}
use Rattle.record_history.specs.Events.{Event, Deed, FoundPlan, FoundMessage, FoundRecord, FoundHold}
use Rattle.record_history.specs.Laws.{Told}
use Rattle.record_history.specs.Lines.{lines_from}
use Rattle.record_history.specs.Replay.{replay, sealed}
use Rattle.record_history.specs.Views.{seal_view}
use Rattle.record_judge.specs.Judging.{Judges}
use Rattle.record_judge.specs.Sealed.{archive_view, record_view}
use Rattle.record_judge.specs.declared.judge.Judge.{Judge}
use Rattle.record_judge.specs.declared.sealed.NamedHold.{NamedHold}
use Rattle.record_judge.specs.declared.sealed.SealedArchive.{SealedArchive}
use Rattle.record_judge.specs.declared.sealed.SealedMessage.{SealedMessage}
use Rattle.record_judge.specs.declared.sealed.SealedRecord.{SealedRecord}

abbrev pub found_message : SealedMessage → Deed
found_message m = FoundMessage m.number (seal_view m.seal)

abbrev pub found_record : SealedRecord → Deed
found_record r = FoundRecord (record_view r)

abbrev pub found_hold : NamedHold → Deed
found_hold h = FoundHold h.name.items h.number

-- THE FINDINGS
abbrev pub findings_of : SealedArchive → List Deed
findings_of s = FoundPlan s.plan ∷ (map found_message s.messages.items ++ (map found_record s.records.items ++ map found_hold s.holds.items))

abbrev pub deeds_of : List Event → List Deed
deeds_of es = map (λ (e : Event). e.deed) es

-- THE LAW: whatever the archive was, the findings make of it the one that they restate; so after a history that a judge has
-- seen, they explain it
pub record FindingsRestate : Type 0 where
  pub restate : (s : SealedArchive) (es : List Event) (a : Archive) → deeds_of es ≡ findings_of s → replay es a ≡ Some (archive_view s)
  pub first : (s : SealedArchive) (es : List Event) (a : Archive) → deeds_of es ≡ findings_of s → archive_view s ≡ sealed a →
      Told a (lines_from 1 es)
  pub after_others : (j : Judge) (ls : List (List ℕ)) (s : SealedArchive) (es : List Event) (a : Archive) → Judges j ls →
      deeds_of es ≡ findings_of s → archive_view s ≡ sealed a → Told a (ls ++ lines_from (length ls + 1) es)
