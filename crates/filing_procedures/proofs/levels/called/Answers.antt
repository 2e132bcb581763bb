use Rattle.std.proofs.Common.{List, [], suc, ◌+◌, drop, map, flat_map, length, ap, sym, subst, ◌<◌, ◌∙◌, arith}
use Rattle.std.proofs.lemmas.Bool.{MatchBool-at_true, MatchBool-at_false}
use Rattle.std.proofs.lemmas.List.{drop_all}
use Rattle.sieve_meaning.specs.Procedures.{Procedure}
use Rattle.sieve_library.specs.BorrowedShelves.{scripts_of}
use Rattle.sieve_library.specs.Libraries.{library_of}
use Rattle.filing_procedures.specs.ProcedureCode.{procedure_of, with_procedures, entered_by}
use Rattle.filing_procedures.specs.declared.procedure.Procedure as code
use Rattle.filing_procedures.proofs.EnterLemmas.{caller_turn, caller_full, called_are}
use Rattle.filing_procedures.proofs.LevelLemmas.{lefts_from}
use Rattle.filing_procedures.proofs.levels.called.Goals as goal

pub returns-then-not-branch-clause-made : goal.returns-then-not-branch-clause-made
returns-then-not-branch-clause-made c = λ left same.
    let lib = library_of (scripts_of c.args.reach.now.shelves) in
    let level = map procedure_of c.args.level.now in
    let all = with_procedures lib [] (flat_map (entered_by lib) level) in
    let full = caller_full lib (map procedure_of c.loop-caller.next.items) all c.args.level.now
    c.loop-caller.caller-index c.caller-item.result c.loop-caller-test.true c.caller-item.is
    c.loop-caller.invariant.2 c.args.room
    (MatchBool-at_false _ _ c.if-not-branch.true c.in_ok-enter_included.ensures.made) in
    subst (λ (ps : List Procedure). c.args.room < length ps) (called_are lib left level (lefts_from (suc left) c.args.level.now same)) full

pub loop-caller-preserved : goal.loop-caller-preserved
loop-caller-preserved c =
    let lib = library_of (scripts_of c.args.reach.now.shelves) in
    let all = with_procedures lib [] (flat_map (entered_by lib) (map procedure_of c.args.level.now)) in
    let rest = flat_map (entered_by lib) (map procedure_of (drop (c.loop-caller.caller-index + 1) c.args.level.now)) in (
      c.in_ok-enter_included.ensures.each,
      c.in_ok-enter_included.ensures.few,
      ap (λ (ps : List Procedure). with_procedures lib ps rest) (MatchBool-at_true _ _ c.if-not-branch.false c.in_ok-enter_included.ensures.made)
          ∙ caller_turn lib (map procedure_of c.loop-caller.next.items) all c.args.level.now c.loop-caller.caller-index
          c.caller-item.result c.loop-caller-test.true c.caller-item.is c.loop-caller.invariant.2,
    )

pub returns-clause-made : goal.returns-clause-made
returns-clause-made c = λ left same.
    let lib = library_of (scripts_of c.args.reach.now.shelves) in
    let next = map procedure_of c.loop-caller.next.items in
    ap (λ (ps : List code.Procedure). with_procedures lib next (flat_map (entered_by lib) (map procedure_of ps)))
    (sym (drop_all c.loop-caller.caller-index c.args.level.now (omega arith)))
    ∙ c.loop-caller.invariant.2
    ∙ called_are lib left (map procedure_of c.args.level.now) (lefts_from (suc left) c.args.level.now same)
