use Rattle.std.proofs.lemmas.Bool.{MatchBool-at_false}
use Rattle.std.proofs.Common.{◌-◌, List, map, filter_map, ap, ◌∙◌}
use Rattle.sieve_syntax.specs.View.{tree_of}
use Rattle.sieve_meaning.specs.Reading.{program_of}
use Rattle.sieve_meaning.specs.Meaning.{ScriptName}
use Rattle.sieve_meaning.specs.Procedures.{included_names, entry}
use Rattle.sieve_meaning.specs.Scripts.{script_of}
use Rattle.sieve_meaning.specs.declared.scripts.ScriptName as code
use Rattle.sieve_library.specs.BorrowedShelves.{scripts_of}
use Rattle.sieve_library.specs.Libraries.{library_of}
use Rattle.filing_procedures.specs.ProcedureCode.{names_of, procedure_of, with_procedures, entered_by}
use Rattle.filing_procedures.proofs.EnterLemmas.{there_alone, name_full}
use Rattle.filing_procedures.proofs.levels.enter_included.Goals as goal

pub loop-name-init : goal.loop-name-init
loop-name-init c =
    let lib = library_of (scripts_of c.args.reach.now.shelves) in
    let left = c.args.caller.now.key.left - 1 in
    let chain = names_of c.args.caller.now in
    let ps = map procedure_of c.args.next.now.items in (
      c.requires.each,
      c.requires.few,
      ap (λ (ns : List code.ScriptName). with_procedures lib ps (filter_map (entry lib left chain) (map script_of ns)))
          c.deref-name-items.ensures.value
          ∙ ap (λ (ns : List ScriptName). with_procedures lib ps (filter_map (entry lib left chain) ns)) c.in_ok-names.ensures
          ∙ ap (with_procedures lib ps) (there_alone lib left chain (included_names (program_of (tree_of c.args.caller.now.script.now)))),
    )

pub returns-then-not-branch-clause-made : goal.returns-then-not-branch-clause-made
returns-then-not-branch-clause-made c =
    let lib = library_of (scripts_of c.args.reach.now.shelves) in
    let left = c.args.caller.now.key.left - 1 in
    let chain = names_of c.args.caller.now in
    let all = with_procedures lib (map procedure_of c.args.next.now.items) (entered_by lib (procedure_of c.args.caller.now)) in
    name_full lib left chain (map procedure_of c.loop-name.next.items) all c.deref-name-items.result.now
    c.loop-name.name-index _ c.loop-name-test.true c.loop-name.invariant.2 c.args.room
    (MatchBool-at_false _ _ c.if-not-branch.true c.in_ok-enter.ensures.made)
