-- Examples of the definitions on small libraries: each equation is computed.
use Rattle.std.proofs.Common.{◌≡◌, ℕ, List, [], ◌∷◌, true, false, Some, None, codes, refl}
use Rattle.sieve_syntax.specs.declared.tree.Script.{Script}
use Rattle.sieve_syntax.specs.View.{tree_of}
use Rattle.sieve_meaning.specs.Reading.{program_of}
use Rattle.sieve_library.specs.Libraries.{NamedScript, Scripts, script_under, with_entry, library_of}

abbrev entry : List ℕ → Script → NamedScript
entry name s = record { name = name; script = s }

abbrev spam : List ℕ
spam = codes "spam"

abbrev lists : List ℕ
lists = codes "lists"

-- two personal scripts, and a global one with the name of the second
abbrev three : (a b c : Script) → Scripts
three a b c = record { personal = entry spam a ∷ entry lists b ∷ []; global = entry lists c ∷ [] }

-- a new name comes after the others
put_new : (a b c : Script) → with_entry (entry (codes "new") c) (three a b c).personal ≡ entry spam a ∷ entry lists b ∷ entry (codes "new") c ∷ []
put_new a b c = refl

-- a script is replaced in its place
put_again : (a b c : Script) → with_entry (entry spam c) (three a b c).personal ≡ entry spam c ∷ entry lists b ∷ []
put_again a b c = refl

-- names are compared octet by octet
named_exactly : (a b c : Script) → script_under (codes "Lists") (three a b c).personal ≡ None
named_exactly a b c = refl

-- the same name in both locations
found_personal : (a b c : Script) → (library_of (three a b c)).find (record { global = false; name = lists }) ≡ Some (program_of (tree_of b))
found_personal a b c = refl

found_global : (a b c : Script) → (library_of (three a b c)).find (record { global = true; name = lists }) ≡ Some (program_of (tree_of c))
found_global a b c = refl

-- a personal script is not found among the global ones
not_found : (a b c : Script) → (library_of (three a b c)).find (record { global = true; name = spam }) ≡ None
not_found a b c = refl
