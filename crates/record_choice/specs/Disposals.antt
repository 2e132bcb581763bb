-- What a disposal destroys, and what it says of each record.
use Rattle.std.specs.Prelude.{◌≡◌, ◌<◌, ◌^◌, ℕ, ℤ, ◌==◌, not, ◌&&◌, Bool, true, false, if◌then◌else◌, List, [], ◌∷◌, length, map, filter, Option, None, Some}
use Rattle.std.specs.List.{list_any}
use Rattle.sha2.specs.Sha256.{sha256}
use Rattle.class_plan.specs.Plans.{schedule_at}
use Rattle.record_archive.specs.Archive.{Record, Archive, Line, record_at, body_of, is_live, destroys, destroy_on, destruction_of, due_list_on}
use Rattle.record_archive.specs.Calls.{Makes}
use Rattle.record_choice.specs.Entries.{RecordEntry, OfRecord, records_from, entry_of, entry_view}
use Rattle.record_choice.specs.declared.destruction.Destroyed as code
use Rattle.record_choice.specs.declared.destruction.Search.{Search}
use Rattle.record_choice.specs.declared.destruction.Search.TheVariants.{Found, Further, Ended}
use Rattle.record_choice.specs.declared.destruction.Summed as code_summed

-- ---- which records may be destroyed

-- THE DUE LIST of a day without the records that the plan does not destroy
abbrev pub disposable_list : Archive → ℤ → List Line
disposable_list a day = filter (λ (l : Line). destroys (schedule_at a.plan l.path)) (due_list_on a day)

abbrev pub is_one_of : List ℕ → ℕ → Bool
is_one_of ns n = list_any (λ m. n == m) ns

-- one of those that are asked for; each is, where none is asked for
abbrev pub is_asked : List ℕ → ℕ → Bool
is_asked [] n = true
is_asked (m ∷ ms) n = is_one_of (m ∷ ms) n

-- THE LINES of the records that a disposal is about
abbrev pub asked_list : Archive → ℤ → List ℕ → List Line
asked_list a day asked = filter (λ (l : Line). is_asked asked l.number) (disposable_list a day)

-- ---- certificates

-- what a certificate says: the record as it was listed, the length and the SHA-256 of its message, and a record that
-- keeps the message, if one does
pub record Certificate : Type 0 where
  pub entry : RecordEntry
  pub octets : ℕ
  pub sum : List ℕ
  pub kept_by : Option ℕ

abbrev pub certificate_view : code.Destroyed → Certificate
certificate_view d = record { entry = entry_view d.entry; octets = d.octets; sum = d.sum; kept_by = d.kept_by }

-- a live record that has a message, and not this number
abbrev pub keeps : (message number : ℕ) → Record → Bool
keeps message number x = is_live x && ((x.message == message) && not (x.number == number))

-- the same of a record as it is listed
abbrev pub keeps_entry : (message number : ℕ) → RecordEntry → Bool
keeps_entry message number e = not e.destroyed && ((e.message == message) && not (e.number == number))

-- the message of a record is kept by the record of this number, or by none
abbrev pub IsKeptBy : Archive → (message number : ℕ) → Option ℕ → Type 0
IsKeptBy a message number None = list_any (keeps message number) a.records ≡ false
IsKeptBy a message number (Some k) = list_any (λ x. keeps message number x && (x.number == k)) a.records ≡ true

-- what a search that has come to a number finds of these records
abbrev pub Finds : Archive → (message number : ℕ) → ℕ → Search → Type 0
Finds a message number from (Found k) = list_any (λ x. keeps message number x && (x.number == k)) a.records ≡ true
Finds a message number from (Further next) =
    (from < next) × (next < 2 ^ 32) × (list_any (keeps message number) (records_from a next) ≡ list_any (keeps message number) (records_from a from))
Finds a message number from Ended = list_any (keeps message number) (records_from a from) ≡ false

abbrev pub search_after : Option ℕ → Search
search_after (Some n) = Further n
search_after None = Ended

-- what is true of a record that is about to be destroyed
pub record IsCertificate (a : Archive) (n : ℕ) (c : Certificate) : Type 0 where
  pub of : Record
  pub found : record_at a n ≡ Some of
  pub entry : c.entry ≡ entry_of a of
  pub body : List ℕ
  pub stored : body_of a.messages of.message ≡ Some body
  pub octets : c.octets ≡ length body
  pub sum : c.sum ≡ sha256 body
  pub kept : IsKeptBy a of.message n c.kept_by

-- the length and the sum are those of the message
abbrev pub IsSummed : Archive → code_summed.Summed → Type 0
IsSummed a s = (body : List ℕ) × (body_of a.messages s.message ≡ Some body) × (s.octets ≡ length body) × (s.sum ≡ sha256 body)

-- the same where there is one
abbrev pub IsKnown : Archive → Option code_summed.Summed → Type 0
IsKnown a None = Unit {0}
IsKnown a (Some s) = IsSummed a s

-- what is known of a message once its record is destroyed: nothing where it is gone
abbrev pub known_after : code_summed.Summed → Option ℕ → Option code_summed.Summed
known_after s None = None
known_after s (Some k) = Some s

-- The certificate is that of the record of a number, if the record is live, and so is what is known of its message. The
-- certificate says the same of the message.
abbrev pub IsTold : Archive → ℕ → Certificate → code_summed.Summed → Type 0
IsTold a n c s = OfRecord a n (λ r. (c.entry ≡ entry_of a r) × (s.message ≡ r.message) × (c.octets ≡ s.octets) × (c.sum ≡ s.sum)
    × (r.destroyed ≡ false → IsSummed a s × IsKeptBy a r.message n c.kept_by))

-- ---- destruction

-- THESE RECORDS, ONE AFTER ANOTHER, are destroyed by the archive's command, each with its certificate, and this holds of
-- the archive that is left
abbrev pub Destroys : (Archive → Type 0) → ℤ → List ℕ → List Certificate → Archive → Type 0
Destroys Left day [] [] a = Left a
Destroys Left day [] (c ∷ cs) a = ⊥
Destroys Left day (n ∷ ns) [] a = ⊥
Destroys Left day (n ∷ ns) (c ∷ cs) a = IsCertificate a n c × Makes (Destroys Left day ns cs) (destroy_on a n day)

-- the certificates were handed over, in their order, and nothing else was
abbrev pub HandsOver : {K : Type 0} → (K → K → Certificate → Type 0) → K → List Certificate → K → Type 0
HandsOver hands old [] new = old ≡ new
HandsOver {K} hands old (c ∷ cs) new = (next : K) × hands old next c × HandsOver hands next cs new

-- ---- what destruction leaves

-- EACH OF THESE AND NO OTHER is destroyed, and all else of each record stays
abbrev pub with_destroyed : List ℕ → List Record → List Record
with_destroyed ns rs = map (λ (r : Record). if is_one_of ns r.number then destruction_of r else r) rs

-- the law: what is destroyed one after another is each of these and no other
abbrev pub DestroysThese : ℤ → List ℕ → List Certificate → Archive → Type 0
DestroysThese day ns cs a = Destroys (λ b. Unit {0}) day ns cs a → Destroys (λ b. b.records ≡ with_destroyed ns a.records) day ns cs a
