-- Classes that are likely to be the same one by another path.
use Rattle.std.specs.Prelude.{ℕ, List, [], ◌∷◌, Option, Some, None}
use Rattle.tool_plans.specs.declared.dropped.Renaming.{Renaming}

-- a class of the present plan, and one of the new plan
abbrev pub renaming_view : Renaming → List ℕ × List ℕ
renaming_view r = (r.from.now, r.to.now)

-- A CLASS WAS LIKELY TO GET ANOTHER PATH where a single class went and a single class came, and only there
abbrev pub likely_renaming : (went came : List (List ℕ)) → Option (List ℕ × List ℕ)
likely_renaming (went ∷ []) (came ∷ []) = Some (went, came)
likely_renaming went came = None
