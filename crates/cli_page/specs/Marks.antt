-- A name as it is read aloud: without the marks that it stands between. Characters are their numbers.
use Rattle.std.specs.Prelude.{ℕ, List, [], ◌∷◌, ◌==◌, if◌then◌else◌}
use Rattle.std.specs.List.{flat_map}

-- a quotation mark, between two of which a name may stand (RFC 5322, section 3.2.4), is no part of it
abbrev pub read_of : ℕ → List ℕ
read_of c = if c == 34 then [] else c ∷ []

-- ALL BUT THE MARKS
abbrev pub read_all : List ℕ → List ℕ
read_all text = flat_map read_of text
