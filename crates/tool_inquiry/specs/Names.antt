-- The names of scripts in files.
use Rattle.std.specs.Prelude.{ℕ, ◌-◌, ◌==◌, Bool, List, codes, length, take, drop, if◌then◌else◌}
use Rattle.std.specs.List.{after_last}
use Rattle.std.specs.Str.{bytes_eq}

abbrev pub is_slash : ℕ → Bool
is_slash octet = octet == 47

-- a name without `.sieve` at its end, where it ends so
abbrev pub without_ending : List ℕ → List ℕ
without_ending name = if bytes_eq (drop (length name - 6) name) (codes ".sieve") then take (length name - 6) name else name

-- the name of a script by the path of its file: what follows the last `/`, without `.sieve`
abbrev pub name_of : (path : List ℕ) → List ℕ
name_of path = without_ending (after_last is_slash path)
