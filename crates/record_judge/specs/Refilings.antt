-- What a refiling makes of a record, and where it is lawful.
use Rattle.std.specs.Prelude.{◌≡◌, ℕ, List, true, false, Some, if◌then◌else◌}
use Rattle.class_plan.specs.Plans.{has}
use Rattle.record_archive.specs.Archive.{Archive, Record, has_number, record_at}
use Rattle.record_archive.specs.Refiling.{in_class}

-- the record in the class, where it has this number
abbrev pub placed : ℕ → List ℕ → Record → Record
placed n q r = if has_number n r then in_class q r else r

-- the record of this number is there and live, and the path is a class of the plan
pub record MayBeRefiled (a : Archive) (n : ℕ) (q : List ℕ) : Type 0 where
  pub row : Record
  pub found : record_at a n ≡ Some row
  pub live : row.destroyed ≡ false
  pub class : has a.plan.rows q ≡ true
