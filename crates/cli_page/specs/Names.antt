-- The names of the files of an export.
use Rattle.std.specs.Prelude.{ℕ, List, ◌++◌, Option, Some, None, codes, decimal}

-- THE FILE OF A MESSAGE: its number, as 17.eml, behind that of its volume in an archive of volumes, as 3-17.eml
abbrev pub file_name : (volume : Option ℕ) → (message : ℕ) → List ℕ
file_name None m = decimal m ++ codes ".eml"
file_name (Some v) m = decimal v ++ (codes "-" ++ (decimal m ++ codes ".eml"))

-- THE FILE OF THE EVENTS of a store, or of a volume
abbrev pub history_name : (volume : Option ℕ) → List ℕ
history_name None = codes "history.txt"
history_name (Some v) = codes "history-" ++ (decimal v ++ codes ".txt")
