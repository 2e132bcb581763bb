-- How the file `volumes` is spelled.
use Rattle.std.specs.Prelude.{◌≡◌, ◌≤◌, ◌^◌, ℕ, List, ◌++◌, codes, decimal}
use Rattle.cli_volumes.specs.declared.sheet.Sheet.{Sheet}

-- THE TEXT OF A SHEET
abbrev pub spelling : Sheet → List ℕ
spelling s = codes "mailfile volumes 1\nsize " ++ decimal s.size ++ codes "\nbegun " ++ decimal s.begun ++ codes "\n"

-- a volume has a megabyte at least, and a terabyte at most
abbrev pub IsSize : ℕ → Type 0
IsSize octets = (2 ^ 20 ≤ octets) × (octets ≤ 2 ^ 40)

-- THE TEXT OF A SHEET OF AN ARCHIVE
abbrev pub IsSpelled : Sheet → List ℕ → Type 0
IsSpelled sheet octets = (octets ≡ spelling sheet) × IsSize sheet.size
