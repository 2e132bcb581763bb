-- The strings of a string list in an argument (RFC 5228, section 2.4.2.1).
use Rattle.std.specs.Prelude.{ℕ, List, [], ◌∷◌}
use Rattle.sieve_syntax.specs.declared.tree.StringList.{StringList}
use Rattle.sieve_syntax.specs.declared.tree.StringList.TheVariants as string_lists

-- the only or the first string
abbrev pub first_of : StringList → List ℕ
first_of (string_lists.One s) = s
first_of (string_lists.Listed s ss) = s

-- the strings after the first one
abbrev pub others_of : StringList → List (List ℕ)
others_of (string_lists.One s) = []
others_of (string_lists.Listed s ss) = ss

-- all strings
abbrev pub strings_of : StringList → List (List ℕ)
strings_of l = first_of l ∷ others_of l
