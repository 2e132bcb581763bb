-- The names of header fields that a test names, each once. They ignore ASCII case (RFC 5228, section 2.4.2.2).
use Rattle.std.specs.Prelude.{ℕ, List, [], ◌∷◌, Bool, not, Vec}
use Rattle.std.specs.List.{list_any, filter}
use Rattle.std.specs.Str.{bytes_eq, str_to_ascii_lowercase}
use Rattle.std.specs.declared.alloc.Global.{Global}
use Rattle.sieve_syntax.specs.Arguments.{first_of, others_of}
use Rattle.sieve_syntax.specs.declared.tree.StringList.{StringList}
use Rattle.sieve_meaning.specs.Words.{same_word}

-- each name where it comes first, and none after it that is equal to it without case
abbrev pub each_once : List (List ℕ) → List (List ℕ)
each_once [] = []
each_once (n ∷ ns) = n ∷ filter (λ m. not (same_word n m)) (each_once ns)

-- those after the first name that are not equal to it, each once
abbrev pub others_once : List ℕ → List (List ℕ) → List (List ℕ)
others_once n ns = filter (λ m. not (same_word n m)) (each_once ns)

-- those of a list after its first name that are not equal to it, each once
abbrev pub other_names : StringList → List (List ℕ)
other_names names = others_once (first_of names) (others_of names)

-- whether the name is among these, which are in lower case
abbrev pub has_name : List (Vec ℕ Global) → List ℕ → Bool
has_name lowercase name = list_any (λ k. bytes_eq (str_to_ascii_lowercase name) k.items) lowercase
