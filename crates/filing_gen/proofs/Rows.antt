-- The definitions on small libraries, and on lists of names: each line computes.
use Rattle.std.proofs.Common.{◌≡◌, ℕ, List, [], ◌∷◌, true, false, codes, refl}
use Rattle.sieve_syntax.specs.declared.tree.Script.{Script}
use Rattle.sieve_library.specs.Libraries.{NamedScript, Scripts}
use Rattle.filing_gen.specs.Names.{each_once}
use Rattle.filing_procedures.specs.Slots.{slots_of}

abbrev entry : List ℕ → Script → NamedScript
entry name s = record { name = name; script = s }

abbrev spam : List ℕ
spam = codes "spam"

abbrev lists : List ℕ
lists = codes "lists"

-- two personal scripts, and a global one with the name of the second
abbrev three : (a b c : Script) → Scripts
three a b c = record { personal = entry spam a ∷ entry lists b ∷ []; global = entry lists c ∷ [] }

slot_personal : (a b c : Script) → slots_of (three a b c) (record { global = false; name = lists }) ≡ 1
slot_personal a b c = refl

slot_global : (a b c : Script) → slots_of (three a b c) (record { global = true; name = lists }) ≡ 32
slot_global a b c = refl

-- a name that is equal without case is named once
once_without_case : each_once (codes "To" ∷ codes "cc" ∷ codes "TO" ∷ codes "to" ∷ []) ≡ codes "To" ∷ codes "cc" ∷ []
once_without_case = refl

not_a_beginning : each_once (codes "cc" ∷ codes "c" ∷ []) ≡ codes "cc" ∷ codes "c" ∷ []
not_a_beginning = refl
