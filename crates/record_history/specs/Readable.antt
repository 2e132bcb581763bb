-- WHICH EVENTS HAVE A LINE OF THEIR OWN: what users choose freely is words, a title and a legal basis after their lengths, and
-- a reason that ends the line.
use Rattle.std.specs.Prelude.{◌≡◌, ℕ, ◌<◌, ◌≤◌, ◌==◌, nat_le, Bool, true, false, not, ◌&&◌, ◌||◌, List, [], ◌∷◌, length, IfSome}
use Rattle.std.specs.List.{list_all, AllByRecursion}
use Rattle.session_words.specs.Words.{is_name}
use Rattle.class_paths.specs.Path.{is_mark}
use Rattle.class_plan.specs.Schedules.{IsInRange, IsInRangeIfAny}
use Rattle.class_plan.specs.Plans.{Listing, Row}
use Rattle.record_history.specs.Events.{Event, Deed, Seal, Filing}
use Rattle.record_history.specs.Events.{Captured, Held, Released, Destroyed, ClassAdded, PlanReplaced, FoundPlan, FoundMessage, FoundRecord, FoundHold}
use Rattle.record_history.specs.Events.{ReasonsRequired, ReasonsOptional, FindingsAccepted, Refiled, Titled}
use Rattle.record_history.specs.Spelled.{IsDay, IsMoment}

-- a name: 1 to 64 octets from 33 to 126
abbrev pub IsName : List ℕ → Type 0
IsName w = is_name w ≡ true

-- the octets of a class path
abbrev pub is_path_octet : ℕ → Bool
is_path_octet o = is_mark o || o == 47

abbrev pub IsPathText : List ℕ → Type 0
IsPathText q = (0 < length q) × (list_all is_path_octet q ≡ true)

-- hexadecimal digits as they are written
abbrev pub is_hex_digit : ℕ → Bool
is_hex_digit o = (nat_le 48 o && nat_le o 57) || (nat_le 97 o && nat_le o 102)

abbrev pub IsSum : List ℕ → Type 0
IsSum w = (length w ≡ 64) × (list_all is_hex_digit w ≡ true)

-- the number of a record
abbrev pub IsNumber : ℕ → Type 0
IsNumber n = n ≤ 4294967295

pub record IsSeal (s : Seal) : Type 0 where
  pub octets : s.octets ≤ 18446744073709551615
  pub sum : IsSum s.sum

pub record IsFiling (f : Filing) : Type 0 where
  pub officer : IsName f.officer
  pub rules : IsSum f.rules

pub record IsRow (r : Row) : Type 0 where
  pub path : IsPathText r.path
  pub range : IsInRangeIfAny r.schedule

pub record IsListing (p : Listing) : Type 0 where
  pub root : IsInRange p.root
  pub rows : AllByRecursion IsRow p.rows

-- a space or more, and no control
abbrev pub is_reason_octet : ℕ → Bool
is_reason_octet o = nat_le 32 o && not (o == 127)

-- what people read: a reason, a title or a legal basis
abbrev pub IsReason : List ℕ → Type 0
IsReason r = (length r ≤ 500) × (list_all is_reason_octet r ≡ true)

abbrev pub IsReadableDeed : Deed → Type 0
IsReadableDeed (Captured first seal day filing paths) = IsNumber first × IsSeal seal × IsDay day × IfSome filing IsFiling × AllByRecursion
    IsPathText paths
IsReadableDeed (Held name n) = IsName name × IsNumber n
IsReadableDeed (Released name n) = IsName name × IsNumber n
IsReadableDeed (Destroyed n day schedule) = IsNumber n × IsDay day × IsInRange schedule
IsReadableDeed (Refiled n path) = IsNumber n × IsPathText path
IsReadableDeed (ClassAdded path) = IsPathText path
IsReadableDeed (PlanReplaced p) = IsListing p
IsReadableDeed (Titled path title basis) = IsPathText path × IsReason title × IsReason basis
IsReadableDeed ReasonsRequired = Unit {0}
IsReadableDeed ReasonsOptional = Unit {0}
IsReadableDeed FindingsAccepted = Unit {0}
IsReadableDeed (FoundPlan p) = IsListing p
IsReadableDeed (FoundMessage n seal) = IsNumber n × IsSeal seal
IsReadableDeed (FoundRecord r) = IsNumber r.number × IsNumber r.message × IsPathText r.path × IsDay r.day
IsReadableDeed (FoundHold name n) = IsName name × IsNumber n

-- a word that doesn't begin as a reason does
abbrev pub AreNotes : List ℕ → Type 0
AreNotes [] = Unit {0}
AreNotes (c ∷ cs) = ((c == 58) ≡ false) × IsName (c ∷ cs)

pub record IsReadable (e : Event) : Type 0 where
  pub moment : IsMoment e.moment
  pub who : IsName e.who
  pub deed : IsReadableDeed e.deed
  pub notes : AreNotes e.notes
  pub reason : IsReason e.reason
