-- What was captured twice in an archive of volumes: the groups of the records of all of them, and the rows of the records of these groups.
use Rattle.std.specs.Prelude.{◌≡◌, ◌≤◌, ℕ, ◌+◌, ◌==◌, Bool, true, Vec, slice_get, Some}
use Rattle.std.specs.Prelude.{List, [], ◌∷◌, ◌++◌, length, flat_map, take}
use Rattle.std.specs.declared.alloc.Global.{Global}
use Rattle.command_lines.specs.declared.archives.Listing.{Listing}
use Rattle.record_archive.specs.Archive.{Archive}
use Rattle.cli_console.specs.Sequences.{AreTexts, more_for}
use Rattle.cli_console.specs.Sinks.{Writes}
use Rattle.cli_history.specs.declared.seals.Seals.{Seals}
use Rattle.cli_readings.specs.Groups.{Added, AreGroupsOf, AreTwice, KeyedGroup, key_of, records_of}
use Rattle.cli_readings.specs.Lists.{HasText}
use Rattle.cli_readings.specs.Twice.{AreAllGathered, IsBeside, IsListOfGroups, beside_record}
use Rattle.cli_readings.specs.VolumeLists.{in_volume}
use Rattle.cli_readings.specs.declared.groups.Sealed.{Sealed}
use Rattle.cli_readings.specs.declared.list.ListText.{ListText}
use Rattle.cli_readings.specs.declared.volume_twice.GroupRows.{GroupRows}
use Rattle.cli_readings.specs.declared.volume_twice.TwiceGroups.{TwiceGroups}
use Rattle.cli_readings.specs.declared.volume_twice.TwiceList.{TwiceList}

-- ---- what was captured twice

-- what is gathered of each volume, by its number: what it keeps, and the seals that its history tells
abbrev pub Reading : Type 0
Reading = ℕ → Archive × Seals

-- THE LIVE RECORDS OF THESE VOLUMES ARE GATHERED, all of each, one volume after another, and no others
abbrev pub AreGatheredOf : Reading → (volumes : List ℕ) → List Added → Type 0
AreGatheredOf read [] gathered = gathered ≡ []
AreGatheredOf read (v ∷ vs) gathered =
    (one : List Added) × AreAllGathered v (read v).0 (read v).1 one
    × (rest : List Added) × AreGatheredOf read vs rest × (gathered ≡ one ++ rest)

-- THE GROUPS OF THE LIVE RECORDS OF THESE VOLUMES WHOSE MESSAGES WERE CAPTURED TWICE: those of the records of all of them together
pub record AreTwiceIn (read : Reading) (volumes : List ℕ) (groups : List KeyedGroup) : Type 0 where
  pub gathered : List Added
  pub all : AreGatheredOf read volumes gathered
  pub twice : AreTwice gathered groups

-- as they are gathered
pub record HasGathered (read : Reading) (volumes : List ℕ) (x : TwiceGroups) : Type 0 where
  pub gathered : List Added
  pub all : AreGatheredOf read volumes gathered
  pub groups : AreGroupsOf x.groups gathered

-- ---- what is listed

-- THE TEXT OF A RECORD OF A GROUP: that of a list of its volume, whose number stands before its own. `kept` says what each volume keeps
abbrev pub IsRowIn : (kept : ℕ → Archive) → Listing → (beside : List ℕ) → (is_first : Bool) → Sealed → List ℕ → Type 0
IsRowIn kept l beside is_first r text = IsBeside (kept r.volume) (in_volume r.volume l) beside is_first r text

-- THE LIST OF THESE GROUPS is written, by what each volume keeps, and nothing else
abbrev pub WritesGroups : {K : Type 0} (written : K → List ℕ → Type 0) → (kept : ℕ → Archive) → Listing → List KeyedGroup
    → (before after : K) → Type 0
WritesGroups written kept l groups before after =
    (text : List ℕ) × IsListOfGroups (IsRowIn kept l) l groups text × Writes written before after text

-- ---- as it is listed

-- rows, one behind the other
abbrev pub all_of : List (Vec ℕ Global) → List ℕ
all_of rows = flat_map (λ (row : Vec ℕ Global). row.items) rows

-- A GROUP HAS ROWS: those of its first records, in their order
pub record HasRows (kept : ℕ → Archive) (l : Listing) (x : GroupRows) : Type 0 where
  pub few : length x.rows.items ≤ length (records_of x.keyed.1)
  pub are : AreTexts (IsRowIn kept l (beside_record l.format (key_of x.keyed.0))) true
      (take (length x.rows.items) (records_of x.keyed.1)) (all_of x.rows.items)

-- each of these groups has
abbrev pub HaveRows : (kept : ℕ → Archive) → Listing → List KeyedGroup → List GroupRows → Type 0
HaveRows kept l [] xs = xs ≡ []
HaveRows kept l (g ∷ gs) xs = (x : GroupRows) × (x.keyed ≡ g) × HasRows kept l x
    × (rest : List GroupRows) × HaveRows kept l gs rest × (xs ≡ x ∷ rest)

-- THE GROUPS OF A LIST, each with the rows of its first records
pub record ListsGroups (kept : ℕ → Archive) (l : Listing) (groups : List KeyedGroup) (x : TwiceList) : Type 0 where
  pub listing : x.listing ≡ l
  pub rows : HaveRows kept l groups x.groups.items

-- a record of a volume is the one whose row comes next
pub record IsNextIn (x : GroupRows) (volume : ℕ) (r : Sealed) : Type 0 where
  pub next : slice_get (records_of x.keyed.1) (length x.rows.items) ≡ Some r
  pub volume_is : r.volume ≡ volume

-- the row of a record is added, by what its volume keeps
pub record AddsRow (a : Archive) (l : Listing) (r : Sealed) (old new : GroupRows) : Type 0 where
  pub row : Vec ℕ Global
  pub is : IsBeside a l (beside_record l.format (key_of old.keyed.0)) (length old.rows.items == 0) r row.items
  pub added : new.rows.items ≡ old.rows.items ++ row ∷ []
  pub keyed : new.keyed ≡ old.keyed

-- a group keeps its records, and has rows as before
pub record KeepsRows (kept : ℕ → Archive) (l : Listing) (old new : GroupRows) : Type 0 where
  pub keyed : new.keyed ≡ old.keyed
  pub rows : HasRows kept l old → HasRows kept l new

-- these rows are added to a list, and nothing else
pub record PushesRows {K : Type 0} (written : K → List ℕ → Type 0) (rows : List (Vec ℕ Global)) (old new : ListText K) : Type 0 where
  pub added : Writes (HasText written) old new (all_of rows)
  pub counted : new.count ≡ more_for rows old.count
  pub listing : new.listing ≡ old.listing
