-- Due days by a plan that need not be the one of the archive.
use Rattle.std.specs.Prelude.{ℕ, nat_lt, ℤ, pos, negsuc, List, if◌then◌else◌, Option, None}
use Rattle.class_plan.specs.Calendar.{due_on}
use Rattle.class_plan.specs.Plans.{Listing}

-- THE DUE DAY, by a plan, of a record that was captured in a class on a day: none where the class is permanent or none of
-- the plan's, and for a day that is no day of a capture. Days are counted from 1970-01-01, and 84005 is 2199-12-31.
abbrev pub due_by_plan : Listing → (path : List ℕ) → (day : ℤ) → Option ℕ
due_by_plan plan path (pos n) = if nat_lt 84005 n then None else due_on plan path n
due_by_plan plan path (negsuc n) = None
