-- What becomes of a message of old mail, by what is known.
use Rattle.std.specs.Prelude.{◌≡◌, ℕ, ◌==◌, ◌&&◌, Bool, List, Option, Some, None, if◌then◌else◌}
use Rattle.std.specs.Str.{bytes_eq}
use Rattle.mail_boxes.specs.NoMail.{no_mail as no_mail_in}
use Rattle.mail_boxes.specs.declared.judging.NoMail.{NoMail as NoMailKind}
use Rattle.mail_dates.specs.Dating.{dated}
use Rattle.mail_dates.specs.declared.dating.Dated.{Dated}
use Rattle.mail_dates.specs.declared.dating.Dated.TheVariants as moment
use Rattle.mail_intake.specs.Calls.{Cause, cause_of}
use Rattle.record_history.specs.Events.{Seal}
use Rattle.record_history.specs.Replay.{seal}
use Rattle.record_known.specs.Known.{Key}
use Rattle.mail_import.specs.Known.{first_record}
use Rattle.mail_import.specs.declared.known.AllKnown.{AllKnown}
use Rattle.mail_import.specs.declared.known.FirstRecord.{FirstRecord}
use Rattle.mail_import.specs.declared.message.Terms.{Terms}
use Rattle.mail_import.specs.declared.fate.Fate.{Fate}
use Rattle.mail_import.specs.declared.fate.Fate.TheVariants as fate
use Rattle.mail_import.specs.declared.fate.Stay.{Stay}
use Rattle.mail_import.specs.declared.fate.Stay.TheVariants as stay

-- why a message stays, without where words are in memory
pub data Why : Type 0 where
  no_mail : NoMailKind → Why
  undated : Dated → Why
  too_long : Why
  because : Cause → Why

abbrev pub why_of : Stay → Why
why_of (stay.NoMail why) = no_mail why
why_of (stay.Undated why) = undated why
why_of stay.TooLong = too_long
why_of (stay.For reason) = because (cause_of reason)

-- a message with a moment is captured then, and one without stays
abbrev pub by_moment : Dated → Fate
by_moment (moment.Moment m) = fate.Taken m
by_moment moment.NoField = fate.Undated moment.NoField
by_moment moment.NoDate = fate.Undated moment.NoDate
by_moment (moment.ToCome m) = fate.Undated (moment.ToCome m)

-- A MESSAGE THAT IS CAPTURED ALREADY, as this record, is passed over, unless it is to be captured again
abbrev pub fate_by : Option FirstRecord → (is_again : Bool) → Dated → Fate
fate_by None is_again dated = by_moment dated
fate_by (Some first) is_again dated = if is_again then by_moment dated else fate.Known first

abbrev pub unless : Option NoMailKind → Fate → Fate
unless None f = f
unless (Some why) f = fate.NoMail why

-- which messages are captured already: the first record of the one with a seal, if it is
abbrev pub FirstRecords : Type 0
FirstRecords = Seal → Option FirstRecord

abbrev pub seal_in : Key → Seal
seal_in k = record { octets = k.1; sum = k.0.items }

abbrev pub Knows : AllKnown → FirstRecords → Type 0
Knows known first = (k : Key) → first_record known k ≡ first (seal_in k)

-- WHAT BECOMES OF A MESSAGE of these octets: it stays if they are no message; it is passed over if one of its length and SHA-256 is
-- captured already; and else it is captured at the moment that it gets, or stays where it gets none
abbrev pub decided : Terms → FirstRecords → List ℕ → Fate
decided terms first octets =
    unless (no_mail_in octets) (fate_by (first (seal octets)) terms.is_again (dated terms.dating octets terms.clock))

-- the same seal
abbrev pub is_seal : Seal → Seal → Bool
is_seal s t = bytes_eq s.sum t.sum && (s.octets == t.octets)

-- what is known with one more message, of this seal, whose first record is this one
abbrev pub with_known : Seal → FirstRecord → FirstRecords → FirstRecords
with_known s n first = λ t. if is_seal s t then Some n else first t
