-- The procedures that the code makes.
use Rattle.std.specs.Prelude.{◌≡◌, ℕ, suc, ◌-◌, ◌<◌, List, [], ◌∷◌, ◌++◌, length, map, Bool, MatchBool, Option, Some, None, MatchOption, option_map, if◌then◌else◌, Vec}
use Rattle.std.specs.List.{list_any, filter_map, All}
use Rattle.std.specs.declared.alloc.Global.{Global}
use Rattle.sieve_syntax.specs.View.{tree_of}
use Rattle.sieve_meaning.specs.Meaning.{ScriptName, Library}
use Rattle.sieve_meaning.specs.Program.{Commands}
use Rattle.sieve_meaning.specs.Procedures.{Procedure, included_names, is_shared, entry, called_by, procedures, most_procedures}
use Rattle.sieve_meaning.specs.Reading.{program_of}
use Rattle.sieve_meaning.specs.Scripts.{script_of}
use Rattle.sieve_library.specs.declared.shelves.Shelves.{Shelves}
use Rattle.sieve_library.specs.BorrowedShelves.{library_on}
use Rattle.sieve_library.specs.Libraries.{Scripts, library_of}
use Rattle.filing_procedures.specs.Keys.{IsKeyOf, IsEnteredKey}
use Rattle.filing_procedures.specs.declared.procedure.Procedure as code

-- the names of the active scripts
abbrev pub names_of : code.Procedure → List ScriptName
names_of p = map script_of p.chain.items

-- a procedure as it is in the code
abbrev pub procedure_of : code.Procedure → Procedure
procedure_of p = record { script = program_of (tree_of p.script.now); left = p.key.left; chain = names_of p }

-- an include entered it, and it has its key
abbrev pub IsEntered : Scripts → code.Procedure → Type 0
IsEntered l p = IsEnteredKey l p.key (procedure_of p)

-- what an include of this procedure enters by a name and its script, where one more script may be active
abbrev pub entered_from : code.Procedure → ScriptName → Commands → Procedure
entered_from p s script = record { script = script; left = p.key.left - 1; chain = s ∷ names_of p }

-- whether includes share one of these procedures with another
abbrev pub has_shared : Library → List code.Procedure → Procedure → Bool
has_shared lib ps e = list_any (λ p. is_shared lib (procedure_of p) e) ps

-- these procedures and one more, unless one that includes share with it is there
abbrev pub with_procedure : Library → List Procedure → Option Procedure → List Procedure
with_procedure lib ps None = ps
with_procedure lib ps (Some e) = if list_any (λ p. is_shared lib p e) ps then ps else ps ++ e ∷ []

-- these procedures and then the others in turn, each unless one that includes share with it is there
abbrev pub with_procedures : Library → List Procedure → List Procedure → List Procedure
with_procedures lib ps [] = ps
with_procedures lib ps (e ∷ es) = with_procedures lib (with_procedure lib ps (Some e)) es

-- what the includes of a procedure enter
abbrev pub entered_by : Library → Procedure → List Procedure
entered_by lib p = filter_map (entry lib (p.left - 1) p.chain) (included_names p.script)

-- these procedures and what the include of a name enters that the caller runs, unless it is made
abbrev pub with_entered : Shelves → (made : List code.Procedure) → (caller : code.Procedure) → ScriptName → List Procedure
with_entered shelves made caller s = with_procedure (library_on shelves) (map procedure_of made)
    (entry (library_on shelves) (caller.key.left - 1) (names_of caller) s)

-- these procedures and what all includes of the caller enter, each unless it is made
abbrev pub with_all_entered : Shelves → (made : List code.Procedure) → (caller : code.Procedure) → List Procedure
with_all_entered shelves made caller = with_procedures (library_on shelves) (map procedure_of made)
    (entered_by (library_on shelves) (procedure_of caller))

-- the procedures that those of a level call, where this number of further scripts may be active
abbrev pub called_from : Shelves → (left : ℕ) → (level : List code.Procedure) → List Procedure
called_from shelves left level = called_by (library_on shelves) left (map procedure_of level)

-- These are all procedures that are to be made, or, where the answer is false, all are more than there is room for.
abbrev pub MadeUnlessMore : (room : ℕ) → (all : List Procedure) → (made : List code.Procedure) → Bool → Type 0
MadeUnlessMore room all made answer = MatchBool answer (map procedure_of made ≡ all) (room < length all)

-- All procedures that are to be made are given, or None where they are more than there is room for.
abbrev pub GivenUnlessMore : (room : ℕ) → (all : List Procedure) → Option (Vec code.Procedure Global) → Type 0
GivenUnlessMore room all given = MatchOption given (room < length all) (λ ps. map procedure_of ps.items ≡ all)

-- the number of the procedure that an include enters, among those after the include's own
abbrev pub number_of : Library → (later : List Procedure) → (entry : Procedure) → Option ℕ
number_of lib [] entry = None
number_of lib (p ∷ later) entry = if is_shared lib p entry then Some 0 else option_map suc (number_of lib later entry)

-- the number of the first of these procedures that includes share with another
abbrev pub shared_number : Library → List code.Procedure → Procedure → Option ℕ
shared_number lib ps e = number_of lib (map procedure_of ps) e

-- it has its key
abbrev pub HasKey : Scripts → code.Procedure → Type 0
HasKey l p = IsKeyOf l p.key (procedure_of p)

-- the first has its key, and includes entered all others
abbrev pub HaveKeys : Scripts → List code.Procedure → Type 0
HaveKeys l [] = Unit {0}
HaveKeys l (p ∷ later) = HasKey l p × All (IsEntered l) later

-- These are the procedures of a main script, with their keys.
pub record AreProcedures (l : Scripts) (known_as : Option (List ℕ)) (main : Commands) (ps : List code.Procedure) : Type 0 where
  pub are : map procedure_of ps ≡ procedures (library_of l) known_as main
  pub keys : HaveKeys l ps

-- The procedures of a main script are given, with their keys, or None where there are more than 256.
abbrev pub ProceduresUnlessMore : Scripts → (known_as : Option (List ℕ)) → (main : Commands) →
    Option (Vec code.Procedure Global) → Type 0
ProceduresUnlessMore l known_as main given = MatchOption given
    (most_procedures < length (procedures (library_of l) known_as main))
    (λ ps. AreProcedures l known_as main ps.items)
