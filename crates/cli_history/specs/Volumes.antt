-- How the history of a volume begins that has one before it.
use Rattle.std.specs.Prelude.{◌≡◌, ℕ, List, ◌++◌, length, min, take, drop, if◌then◌else◌, codes, Option, Some, None}
use Rattle.std.specs.Str.{bytes_eq}
use Rattle.cli_history.specs.declared.notes.Beginning.{Beginning}
use Rattle.cli_history.specs.declared.notes.Beginning.TheVariants.{Nowhere, After, Alone}

-- the first 56 digits of a mark
abbrev pub front_of : List ℕ → List ℕ
front_of mark = take (min (length mark) 56) mark

-- THE NOTES OF THE FIRST EVENT: how the mark begins of the volume before, as it was then
abbrev pub notes_naming : List ℕ → List ℕ
notes_naming mark = codes "after=" ++ front_of mark

-- how the mark begins that notes name, if they name one
abbrev pub mark_named : List ℕ → Option (List ℕ)
mark_named notes = if bytes_eq (take 6 notes) (codes "after=") then Some (drop 6 notes) else None

-- A HISTORY BEGINS after the mark that the notes of its first event name, or after none
abbrev pub IsBeginning : (named : Option (List ℕ)) → Beginning → Type 0
IsBeginning None begins = begins ≡ Alone
IsBeginning (Some mark) (After front) = front.items ≡ mark
IsBeginning (Some mark) Alone = ⊥
IsBeginning (Some mark) Nowhere = ⊥
