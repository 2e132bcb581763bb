-- The lines of records: as they are captured, listed and destroyed.
use Rattle.std.specs.Prelude.{ℕ, Bool, if◌then◌else◌, List, [], ◌∷◌, ◌++◌, flat_map, Option, Some, None, codes, string_bytes}
use Rattle.std.specs.Borrow.{Bor}
use Rattle.jiff.specs.Words.{date_text}
use Rattle.jiff_core.specs.declared.civil.date.Date.{Date}
use Rattle.record_archive.specs.declared.line.Line.{Line}
use Rattle.cli_texts.specs.declared.certificates.CapturedMessage.{CapturedMessage}
use Rattle.cli_texts.specs.declared.certificates.Certificate.{Certificate}
use Rattle.cli_texts.specs.declared.records.Row.{Row}
use Rattle.cli_texts.specs.declared.events.ToldCertificate.{ToldCertificate}
use Rattle.cli_texts.specs.declared.headers.Headers.{Headers}
use Rattle.cli_texts.specs.declared.titles.ClassTitle.{ClassTitle}
use Rattle.cli_texts.specs.declared.titles.ListedTitle.{ListedTitle}
use Rattle.cli_texts.specs.Cuts.{cut_octets}
use Rattle.cli_texts.specs.Words.{words, number, name, quotation, escaped, free_words}

abbrev pub due_words : Option Date → List ℕ
due_words None = words (codes "never")
due_words (Some date) = words (date_text date)

-- THE NUMBER OF A RECORD, or of an event: its own, as 17, after that of its volume where it has one, as 3/17
abbrev pub record_number : (volume : Option ℕ) → ℕ → List ℕ
record_number None n = number n
record_number (Some v) n = number v ++ words (codes "/") ++ number n

-- A RECORD OF A CAPTURE, as `record 1 class finance due 2030-11-14`
unfoldable pub captured : (volume : Option ℕ) → Line → List ℕ
captured volume l =
    words (codes "record ") ++ record_number volume l.number ++ words (codes " class ") ++ name l.path.items ++ words (codes " due ")
    ++ due_words l.due

-- ---- a listed record

-- its number, its class and the day of its capture
unfoldable pub listed_front : Row → List ℕ
listed_front r =
    words (codes "record ") ++ record_number r.volume r.number ++ words (codes " class ") ++ name r.path.now ++ words (codes " day ")
    ++ words (date_text r.day)

-- that it is destroyed, or when it is due
abbrev pub listed_state : Row → List ℕ
listed_state r = if r.destroyed then words (codes " destroyed") else words (codes " due ") ++ due_words r.due

-- the texts of its message's header, each cut to 80 columns
unfoldable pub header_words : Headers → List ℕ
header_words h =
    words (codes " sender ") ++ quotation (cut_octets (string_bytes h.sender)) ++ words (codes " subject ")
    ++ quotation (cut_octets (string_bytes h.subject)) ++ words (codes " date ") ++ quotation (cut_octets (string_bytes h.date))

-- the same, where there are any
abbrev pub texts_words : Option Headers → List ℕ
texts_words None = []
texts_words (Some h) = header_words h

abbrev pub hold_words : List ℕ → List ℕ
hold_words hold = words (codes " hold ") ++ name hold

-- A LISTED RECORD, before what is said of its message's header
abbrev pub listed : Row → List ℕ
listed r = listed_front r ++ listed_state r ++ flat_map (λ h. hold_words h.items) r.holds.now

-- ---- the title of a class

-- a title and a legal basis, as ` title "Tax documents" basis "AO 147"`
unfoldable pub title_and_basis : (title basis : List ℕ) → List ℕ
title_and_basis title basis = words (codes " title ") ++ quotation title ++ words (codes " basis ") ++ quotation basis

-- the same of a class, if it has one of them
abbrev pub title_words : Option ClassTitle → List ℕ
title_words None = []
title_words (Some t) = title_and_basis t.title.now t.basis.now

-- A CLASS WITH ITS TITLE
unfoldable pub titled_class : ListedTitle → List ℕ
titled_class t = words (codes "class ") ++ name t.path.now ++ title_and_basis t.title.now t.basis.now

-- ---- a certificate

-- the record with its class, and the message that it had
unfoldable pub destroyed_record : Certificate → List ℕ
destroyed_record c =
    words (codes "destroyed record ") ++ record_number c.volume c.number ++ words (codes " class ") ++ name c.path.now
    ++ title_words c.title ++ words (codes " due ") ++ due_words c.due

unfoldable pub destroyed_message : Certificate → List ℕ
destroyed_message c = words (codes " octets ") ++ number c.octets ++ words (codes " sha256 ") ++ words c.sum.now

-- which record of the same volume keeps the message
abbrev pub kept_words : (volume keeper : Option ℕ) → List ℕ
kept_words volume None = []
kept_words volume (Some keeper) = words (codes " message kept by record ") ++ record_number volume keeper

-- that the message was not the one that follows
unfoldable pub other_words : List ℕ
other_words = words (codes "; its message was not the one captured, which had")

-- that the message was not this one, which was captured
unfoldable pub other_message : CapturedMessage → List ℕ
other_message m =
    other_words ++ words (codes " octets ") ++ number m.octets ++ words (codes " sha256 ") ++ words m.sum.now

abbrev pub replaced_words : Option CapturedMessage → List ℕ
replaced_words None = []
replaced_words (Some captured) = other_message captured

-- the same from a history, which has the sum of the captured message alone
abbrev pub altered_words : Bool → List ℕ
altered_words is_altered =
    if is_altered then
    words (codes "; its message was not the one captured: octets and sha256 are of the one captured, and no event tells those of the one destroyed")
    else []

-- A CERTIFICATE, with the text of its moment
abbrev pub certificate : Certificate → (moment : List ℕ) → List ℕ
certificate c moment =
    destroyed_record c ++ destroyed_message c ++ words (codes " at ") ++ words moment ++ kept_words c.volume c.kept_by
    ++ replaced_words c.captured ++ 10 ∷ []

-- ---- a certificate from a history

-- its class with the title, where the class is known
abbrev pub class_words : Option (Bor (List ℕ)) → Option ClassTitle → List ℕ
class_words None title = []
class_words (Some path) title = words (codes " class ") ++ name path.now ++ title_words title

-- the record, and the day by which it was due
unfoldable pub told_record : ToldCertificate → List ℕ
told_record c =
    words (codes "destroyed record ") ++ record_number c.volume c.number ++ class_words c.path c.title ++ words (codes " as due by ")
    ++ words c.day.now ++ words (codes " (") ++ escaped c.schedule.now ++ words (codes ")")

-- the length and the sum of its message, where they are known
abbrev pub seal_words : Option (ℕ × Bor (List ℕ)) → List ℕ
seal_words None = []
seal_words (Some seal) = words (codes " octets ") ++ number seal.0 ++ words (codes " sha256 ") ++ escaped seal.1.now

-- when it was destroyed, by whom and by which event
unfoldable pub told_deed : ToldCertificate → (moment : List ℕ) → List ℕ
told_deed c moment =
    words (codes " at ") ++ words moment ++ words (codes " by ") ++ free_words c.who.now ++ words (codes " event ")
    ++ record_number c.volume c.event

abbrev pub reason_words : List ℕ → List ℕ
reason_words [] = []
reason_words (b ∷ bs) = words (codes " : ") ++ free_words (b ∷ bs)

-- A CERTIFICATE FROM A HISTORY, with the text of its moment
abbrev pub told_certificate : ToldCertificate → (moment : List ℕ) → List ℕ
told_certificate c moment =
    told_record c ++ seal_words c.seal ++ told_deed c moment ++ kept_words c.volume c.kept_by ++ altered_words c.is_altered
    ++ reason_words c.reason.now ++ 10 ∷ []
