use Rattle.std.proofs.Common.{◌≡◌, ◌-◌, ◌∷◌, ◌++◌, [], List, Some, Bor, map, option_map, sym, ap, ◌∙◌, subst, arith}
use Rattle.std.specs.List.{list_any, All}
use Rattle.std.proofs.lemmas.List.{map-append, length-map}
use Rattle.std.proofs.lemmas.List.Elements.{All-push}
use Rattle.sieve_syntax.specs.declared.tree.Script.{Script}
use Rattle.sieve_syntax.specs.View.{tree_of}
use Rattle.sieve_meaning.specs.Reading.{program_of}
use Rattle.sieve_meaning.specs.Scripts.{script_of}
use Rattle.sieve_meaning.specs.Procedures.{Procedure, is_shared, entry}
use Rattle.sieve_library.specs.BorrowedShelves.{scripts_of}
use Rattle.sieve_library.specs.Libraries.{library_of}
use Rattle.filing_procedures.specs.declared.key.Key.{Key}
use Rattle.filing_procedures.specs.Keys.{IsEnteredKey}
use Rattle.filing_procedures.specs.ProcedureCode.{names_of, procedure_of, IsEntered}
use Rattle.filing_procedures.specs.declared.procedure.Procedure as code
use Rattle.sieve_meaning.specs.declared.scripts.ScriptName as names
use Rattle.filing_procedures.proofs.IncludedLemmas.{any_map}
use Rattle.filing_procedures.proofs.EnterLemmas.{active_entered, there_entered, none_added, made_before, one_added, no_room, same_procedure}
use Rattle.filing_procedures.proofs.levels.enter.Goals.{In-Some, After-key_of_entry-key, After-is_made, In_ok-procedure}
use Rattle.filing_procedures.proofs.levels.enter.Goals as goal

-- what a procedure's include of a name enters, of the script of that name
abbrev entered : code.Procedure → names.ScriptName → Script → Procedure
entered caller name script = record {
  script = program_of (tree_of script);
  left = caller.key.left - 1;
  chain = script_of name ∷ names_of caller;
}

found : (c : In-Some) → (library_of (scripts_of c.args.reach.now.shelves)).find (script_of c.args.name.now)
    ≡ Some (program_of (tree_of c.in-Some.checked.now.script))
found c = ap (option_map (λ (y : Script). program_of (tree_of y))) (sym c.in-Some.ensures.script)

is_entry : (c : In-Some) → entry (library_of (scripts_of c.args.reach.now.shelves)) (c.args.caller.now.key.left - 1)
    (names_of c.args.caller.now) (script_of c.args.name.now)
    ≡ Some (entered c.args.caller.now c.args.name.now c.in-Some.checked.now.script)
is_entry c =
    there_entered (library_of (scripts_of c.args.reach.now.shelves)) (c.args.caller.now.key.left - 1)
    (names_of c.args.caller.now) (script_of c.args.name.now) _ (found c) (sym c.contains.ensures ∙ c.if-contains.false)

is_key : (c : After-key_of_entry-key) → IsEnteredKey (scripts_of c.args.reach.now.shelves) c.key_of_entry-key.result
    (entered c.args.caller.now c.args.name.now c.in-Some.checked.now.script)
is_key c =
    c.key_of_entry-key.ensures (scripts_of c.args.reach.now.shelves) (script_of c.args.name.now) _
    (found (goal.at.After-key_of_entry-key c).In-Some) (sym c.in-Some.ensures.slot) c.requires.key

-- whether one that stands for it is made
was_made : (c : After-is_made) → list_any (λ p. is_shared (library_of (scripts_of c.args.reach.now.shelves)) p
    (entered c.args.caller.now c.args.name.now c.in-Some.checked.now.script)) (map procedure_of c.args.next.now.items)
    ≡ c.is_made.result
was_made c =
    let e = entered c.args.caller.now c.args.name.now c.in-Some.checked.now.script in
    let lib = library_of (scripts_of c.args.reach.now.shelves) in
    any_map (λ (p : Procedure). is_shared lib p e) procedure_of c.args.next.now.items
    ∙ ap (list_any (λ (p : code.Procedure). is_shared lib (procedure_of p) e)) (sym c.deref.ensures.value)
    ∙ sym (c.is_made.ensures e (is_key (goal.at.After-is_made c).After-key_of_entry-key))

is_entered : (c : In_ok-procedure) → procedure_of c.in_ok-procedure.procedure
    ≡ entered c.args.caller.now c.args.name.now c.in-Some.checked.now.script
is_entered c = same_procedure _ (entered c.args.caller.now c.args.name.now c.in-Some.checked.now.script)
    (ap (λ (b : Bor Script). program_of (tree_of b.now)) c.in_ok-procedure.ensures.script
    ∙ ap (λ (y : Script). program_of (tree_of y)) c.script.ensures.value)
    (ap (λ (k : Key). k.left) c.in_ok-procedure.ensures.key
    ∙ (is_key (goal.at.In_ok-procedure c).After-key_of_entry-key).of.left) c.in_ok-procedure.ensures.chain

pub returns-then-contains-clause-made : goal.returns-then-contains-clause-made
returns-then-contains-clause-made c =
    let lib = library_of (scripts_of c.args.reach.now.shelves) in
    none_added lib (map procedure_of c.args.next.now.items) _ (active_entered lib (c.args.caller.now.key.left - 1)
    (names_of c.args.caller.now) (script_of c.args.name.now) (sym c.contains.ensures ∙ c.if-contains.true))

pub returns-then-is_made-clause-made : goal.returns-then-is_made-clause-made
returns-then-is_made-clause-made c =
    let at = goal.at.returns-then-is_made-clause-made c in
    made_before (library_of (scripts_of c.args.reach.now.shelves)) (map procedure_of c.args.next.now.items) _ _
    (is_entry at.In-Some) (was_made at.After-is_made ∙ c.if-is_made.true)

pub returns-then-len-room-clause-made : goal.returns-then-len-room-clause-made
returns-then-len-room-clause-made c =
    let at = goal.at.returns-then-len-room-clause-made c in
    no_room (library_of (scripts_of c.args.reach.now.shelves)) (map procedure_of c.args.next.now.items) _ _
    (is_entry at.In-Some) (was_made at.After-is_made
    ∙ c.if-is_made.false) c.args.room (omega (arith, length-map c.args.next.now.items procedure_of))

pub returns-clause-each : goal.returns-clause-each
returns-clause-each c =
    let at = goal.at.returns-clause-each c in
    let l = scripts_of c.args.reach.now.shelves in
    let p = c.in_ok-procedure.procedure in
    let is : IsEntered l p =
    subst (λ (k : Key). IsEnteredKey l k (procedure_of p)) (sym c.in_ok-procedure.ensures.key)
    (subst (IsEnteredKey l c.key_of_entry-key.result) (sym (is_entered at.In_ok-procedure)) (is_key at.After-key_of_entry-key)) in
    subst (λ (ps : List code.Procedure). All (IsEntered l) ps) (sym c.in_ok-push.ensures.items)
    (All-push (IsEntered l) c.args.next.now.items p c.requires.each is)

pub returns-clause-made : goal.returns-clause-made
returns-clause-made c =
    let at = goal.at.returns-clause-made c in
    ap (map procedure_of) c.in_ok-push.ensures.items
    ∙ map-append procedure_of c.args.next.now.items (c.in_ok-procedure.procedure ∷ [])
    ∙ ap (λ (q : Procedure). map procedure_of c.args.next.now.items ++ q ∷ []) (is_entered at.In_ok-procedure)
    ∙ one_added (library_of (scripts_of c.args.reach.now.shelves)) (map procedure_of c.args.next.now.items) _ _
    (is_entry at.In-Some) (was_made at.After-is_made ∙ c.if-is_made.false)
