-- Classes that are read one after the other.
use Rattle.std.specs.Prelude.{List, ◌++◌, Option, Some, None}
use Rattle.class_plan.specs.Plans.{Row}

-- some classes, and then those that are read
abbrev pub with_rows : List Row → Option (List Row) → Option (List Row)
with_rows front None = None
with_rows front (Some rs) = Some (front ++ rs)
