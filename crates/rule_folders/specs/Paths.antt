-- Where the file of a script is.
use Rattle.std.specs.Prelude.{ℕ, List, [], ◌∷◌, ◌++◌, Option, Some, None, ◌==◌, ◌&&◌, codes, if◌then◌else◌}
use Rattle.std.specs.Str.{is_utf8}
use Rattle.rule_folders.specs.Names.{is_name_of_script}

-- the name of a folder without the `/` that it may end with
abbrev pub without_slash : List ℕ → List ℕ
without_slash [] = []
without_slash (c ∷ []) = if c == 47 then [] else c ∷ []
without_slash (c ∷ d ∷ cs) = c ∷ without_slash (d ∷ cs)

abbrev pub path_under : (folder name : List ℕ) → List ℕ
path_under folder name = folder ++ (codes "/" ++ (name ++ codes ".sieve"))

-- THE PATH OF A SCRIPT IN A FOLDER, BY ITS NAME; none where no file can have it
abbrev pub path_of_name : (folder name : List ℕ) → Option (List ℕ)
path_of_name folder name = if is_name_of_script name && is_utf8 name then Some (path_under (without_slash folder) name) else None
