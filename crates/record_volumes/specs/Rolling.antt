-- Captures into archives of volumes: a message goes into the last volume, or into a next one where the last is over its size.
use Rattle.std.specs.Prelude.{◌≡◌, ℕ, ◌+◌, nat_lt, ◌&&◌, Bool, if◌then◌else◌, List, [], ◌∷◌, ◌++◌, map, Result, Ok, Err}
use Rattle.record_archive.specs.Archive.{Archive, Message, empty_archive, capture}
use Rattle.record_archive.specs.declared.fault.ArchiveRefusal.{ArchiveRefusal}
use Rattle.record_volumes.specs.declared.rolling.Target.{Target}
use Rattle.record_volumes.specs.declared.rolling.Target.TheVariants.{Last, Next}
use Rattle.record_volumes.specs.Volumes.{joined}

-- volumes have numbers of four digits
abbrev pub last_number : ℕ
last_number = 9999

-- a volume is over its size, and another one may come after it
abbrev pub is_full : (volume octets size : ℕ) → Bool
is_full volume octets size = nat_lt size octets && nat_lt volume last_number

-- WHERE A MESSAGE GOES: into the last volume, or into the next where the last is over its size
abbrev pub target : (volume octets size : ℕ) → Target
target volume octets size = if is_full volume octets size then Next (volume + 1) else Last volume

-- ---- what that makes of the archives

-- the volumes before the last one, and the last one
pub record Row : Type 0 where
  pub before : List Archive
  pub last : Archive

abbrev pub volumes_of : Row → List Archive
volumes_of row = row.before ++ row.last ∷ []

-- a volume in which nothing was captured, with the plan of the one before it
abbrev pub next_volume : Archive → Archive
next_volume a = record empty_archive { plan = a.plan }

-- the row once a next volume was begun, where that is asked for
abbrev pub rolled : Bool → Row → Row
rolled rolls row = if rolls then record { before = volumes_of row; last = next_volume row.last } else row

-- the same row with what became of its last volume
abbrev pub with_last : Row → Result Archive ArchiveRefusal → Result Row ArchiveRefusal
with_last row (Ok a) = Ok (record row { last = a })
with_last row (Err f) = Err f

-- a message that is captured on a day in the classes of these paths, and whether a next volume is begun for it
pub record Capture : Type 0 where
  pub rolls : Bool
  pub body : List ℕ
  pub day : ℕ
  pub paths : List (List ℕ)

-- A CAPTURE INTO A ROW OF VOLUMES
abbrev pub capture_in : Row → Capture → Result Row ArchiveRefusal
capture_in row c = with_last (rolled c.rolls row) (capture (rolled c.rolls row).last c.body c.day c.paths)

-- captures one after the other, up to the first that is refused
abbrev pub go_on : (Row → Result Row ArchiveRefusal) → Result Row ArchiveRefusal → Result Row ArchiveRefusal
go_on next (Ok row) = next row
go_on next (Err f) = Err f

abbrev pub capture_all : List Capture → Row → Result Row ArchiveRefusal
capture_all [] row = Ok row
capture_all (c ∷ cs) row = go_on (capture_all cs) (capture_in row c)

-- THE MESSAGES OF ALL VOLUMES, volume by volume
abbrev pub bodies : Row → List (List ℕ)
bodies row = joined (λ v a. map (λ (m : Message). m.body) a.messages) (volumes_of row)

-- the message of a capture, which is stored once where it has a class
abbrev pub body_in : List (List ℕ) → List ℕ → List (List ℕ)
body_in [] body = []
body_in (q ∷ qs) body = body ∷ []

abbrev pub bodies_in : List Capture → List (List ℕ)
bodies_in [] = []
bodies_in (c ∷ cs) = body_in c.paths c.body ++ bodies_in cs

-- THE LAW: after captures that were not refused, all volumes together have the messages of before and then each message that
-- has a class, once, in the order of the captures, whatever volumes were begun
abbrev pub HasEachOnce : List Capture → Row → Type 0
HasEachOnce cs row = (after : Row) → capture_all cs row ≡ Ok after → bodies after ≡ bodies row ++ bodies_in cs
