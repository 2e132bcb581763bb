-- The names of volumes.
use Rattle.std.specs.Prelude.{ℕ, ◌/◌, ◌%◌, ◌==◌, ◌&&◌, List, [], ◌∷◌, ◌++◌, length, take, drop, codes, decimal, Option, Some, None, if◌then◌else◌}
use Rattle.std.specs.Str.{bytes_eq}
use Rattle.session_words.specs.Words.{digits_up_to}

-- volumes have numbers from 1 on
abbrev pub from_one : Option ℕ → Option ℕ
from_one None = None
from_one (Some n) = if n == 0 then None else Some n

-- THE VOLUME OF A NAME: four digits, not all of them 0, and `.db`
abbrev pub volume_named : List ℕ → Option ℕ
volume_named name =
    if (length name == 7) && bytes_eq (drop 4 name) (codes ".db") then from_one (digits_up_to 9999 (take 4 name)) else None

-- THE NAME OF A VOLUME: its number in four digits, and `.db`
abbrev pub name_of : ℕ → List ℕ
name_of v = decimal (v / 1000 % 10) ++ decimal (v / 100 % 10) ++ decimal (v / 10 % 10) ++ decimal (v % 10) ++ codes ".db"

-- ---- paths

-- the path of a folder without the slash that it may end with
abbrev pub without_slash : List ℕ → List ℕ
without_slash [] = []
without_slash (c ∷ []) = if c == 47 then [] else c ∷ []
without_slash (c ∷ d ∷ cs) = c ∷ without_slash (d ∷ cs)

-- THE PATH OF A FILE in a folder
abbrev pub path_in : (folder name : List ℕ) → List ℕ
path_in folder name = without_slash folder ++ (codes "/" ++ name)

-- THE PATH OF A VOLUME in a folder
abbrev pub path_of : (folder : List ℕ) (volume : ℕ) → List ℕ
path_of folder volume = path_in folder (name_of volume)

-- the path of a folder until it is whole
abbrev pub draft_of : (folder : List ℕ) → List ℕ
draft_of folder = without_slash folder ++ codes ".mailfile-new"
