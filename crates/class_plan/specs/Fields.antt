-- What a plan's map of classes shows.
use Rattle.std.specs.Prelude.{ℕ, List, map, Vec}
use Rattle.std.specs.BTreeMap.{BTreeMap}
use Rattle.std.specs.declared.alloc.Global.{Global}
use Rattle.class_plan.specs.declared.plans.Class.{Class}
use Rattle.class_plan.specs.Plans.{Row}

-- an entry of the map
abbrev pub MapEntry : Type 0
MapEntry = Vec ℕ Global × Class

abbrev pub row : MapEntry → Row
row e = record { path = e.0.items; is_open = e.1.is_open; schedule = e.1.schedule }

abbrev pub rows : List MapEntry → List Row
rows es = map row es

abbrev pub rows_in : BTreeMap (Vec ℕ Global) Class → List Row
rows_in m = rows m.entries
