use Rattle.std.proofs.Common.{map, refl, ap, ◌∙◌}
use Rattle.sieve_syntax.specs.View.{tree_of}
use Rattle.sieve_library.specs.BorrowedShelves.{scripts_of}
use Rattle.sieve_library.specs.Libraries.{library_of}
use Rattle.sieve_evaluator.specs.Case.{facts_of}
use Rattle.sieve_evaluator.specs.Runs.{ending_at, filing_of}
use Rattle.sieve_meaning.specs.Scripts.{include_view, script_of}
use Rattle.sieve_evaluator.specs.declared.filing.Filing.{Filing}
use Rattle.sieve_evaluator.proofs.IncludeLemmas.{entered_runs, filing_entered}
use Rattle.sieve_evaluator.proofs.levels.AboveScriptEntry.enter.Goals as goal

pub returns : goal.returns
returns g c =
    let s = c.args.scope.now in
    let old = c.args.filing.now in
    let new : Filing = record old { entered = c.push_front.new.self } in
    let active = ap (map script_of) (c.as_slice.ensures.value ∙ c.in_ok-chain.ensures) in
    let begun = filing_entered old new c.args.include.now.script refl refl refl c.in_ok-push_front.ensures.items in
    entered_runs (facts_of s.case.now) (library_of (scripts_of s.shelves)) g.L.Level.depth (map script_of s.chain.now)
    (map script_of c.as_slice.result.now) (include_view c.args.include.now) (tree_of c.args.script.now)
    (filing_of old) (filing_of new) (ending_at c.in_ok-ending.ending c.run.new.filing)
    (ending_at c.ended.result c.run.new.filing) active begun c.in_ok-ending.ensures
    (c.ended.ensures c.run.new.filing)
