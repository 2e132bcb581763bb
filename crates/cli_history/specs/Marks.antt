-- Which event has a mark that was noted elsewhere.
use Rattle.std.specs.Prelude.{ℕ, Bool, true, false, Option, Some, None}

-- something is looked for, and it is this
abbrev pub is_sought : {X : Type 0} → (X → Bool) → Option X → Bool
is_sought f None = false
is_sought f (Some x) = f x

-- THE EVENT THAT HAS THE MARK, once one more was judged: that one where it has it, and else the one from before
abbrev pub met_after : (has_mark : Bool) → ℕ → Option ℕ → Option ℕ
met_after true number before = Some number
met_after false number before = before
