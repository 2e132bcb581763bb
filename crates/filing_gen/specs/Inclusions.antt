-- What the includes of a procedure come to, in terms of the definitions.
use Rattle.std.specs.Prelude.{ℕ, zero, suc, ◌<◌, List, map, Bool, Option, Some, None}
use Rattle.sieve_meaning.specs.declared.run_fault.RunFault.TheVariants.{NestingTooDeep}
use Rattle.sieve_meaning.specs.Program.{Include}
use Rattle.sieve_library.specs.BorrowedShelves.{library_on}
use Rattle.filing_procedures.specs.ProcedureCode.{procedure_of}
use Rattle.filing_procedures.specs.Slots.{slots_on}
use Rattle.filing_flow.specs.Structure.{SetMark, Fail, Flow, nothing, action, sequence}
use Rattle.filing_gen.specs.IncludeCode.{once_flow}
use Rattle.filing_gen.specs.Procedures.{call_flow, calling_flow, called_path, path_at}
use Rattle.filing_gen.specs.Scopes.{names_of}
use Rattle.filing_gen.specs.declared.callees.Callees.{Callees}
use Rattle.filing_gen.specs.declared.callees.Call.{Call}
use Rattle.filing_gen.specs.declared.callees.Call.TheVariants.{TooDeep, To, Missing}
use Rattle.filing_gen.specs.declared.callees.Inclusion.{Inclusion}
use Rattle.filing_gen.specs.declared.callees.Inclusion.TheVariants.{Pass, Fault, Enter}

-- how a script is entered where this number of further ones may be active, and its procedure has this number
abbrev pub call_of : (left : ℕ) → (number : Option ℕ) → Call
call_of zero number = TooDeep
call_of (suc left) None = Missing
call_of (suc left) (Some n) = To n

-- the code that enters the script of a slot from the procedure with the number `own`
abbrev pub code_of_call : (own slot : ℕ) → Call → Flow
code_of_call own slot TooDeep = action (Fail NestingTooDeep)
code_of_call own slot (To n) = sequence (action (SetMark slot)) (call_flow own (Some n))
code_of_call own slot Missing = sequence (action (SetMark slot)) (call_flow own None)

-- the code of an include, which may have `:once`
abbrev pub code_of : (own : ℕ) → (once : Bool) → Inclusion → Flow
code_of own once Pass = nothing
code_of own once (Fault fault) = action (Fail fault)
code_of own once (Enter slot call) = once_flow once slot (code_of_call own slot call)

abbrev pub path_of_call : (paths : List ℕ) → Call → ℕ
path_of_call paths TooDeep = 0
path_of_call paths (To n) = path_at paths (Some n)
path_of_call paths Missing = 0

-- what an include adds to the path weight of its procedure, by the path weights of the procedures after it
abbrev pub path_of : (paths : List ℕ) → Inclusion → ℕ
path_of paths Pass = 0
path_of paths (Fault fault) = 0
path_of paths (Enter slot call) = path_of_call paths call

-- a procedure that is called is one of this number of procedures
abbrev pub CallsOneOf : (count : ℕ) → Call → Type 0
CallsOneOf count TooDeep = Unit {0}
CallsOneOf count (To n) = n < count
CallsOneOf count Missing = Unit {0}

-- a script that is entered has a slot below 64, and calls one of this number of procedures
abbrev pub EntersOneOf : (count : ℕ) → Inclusion → Type 0
EntersOneOf count Pass = Unit {0}
EntersOneOf count (Fault fault) = Unit {0}
EntersOneOf count (Enter slot call) = (slot < 64) × CallsOneOf count call

-- the code of an include of a procedure that has the number `own`
abbrev pub code_of_include : Callees → (own : ℕ) → Include → Flow
code_of_include c own i =
    calling_flow (library_on c.scope.shelves) (slots_on c.scope.shelves) (names_of c.scope.main) own
    (map procedure_of c.later.now) (procedure_of c.procedure.now) i

-- what an include of the procedure adds to its path weight, by the path weights of the procedures after it
abbrev pub path_of_include : Callees → (paths : List ℕ) → Include → ℕ
path_of_include c paths i =
    called_path (library_on c.scope.shelves) (map procedure_of c.later.now) paths c.procedure.now.key.left
    (procedure_of c.procedure.now).chain i
