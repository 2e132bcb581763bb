use Rattle.std.proofs.Common.{◌≡◌, map, ap, sym, refl, ◌∙◌}
use Rattle.std.proofs.lemmas.Result.{IfOk-weaker}
use Rattle.std.specs.Prelude.{option_map, Some}
use Rattle.sieve_syntax.specs.View.{tree_of}
use Rattle.sieve_meaning.specs.Meaning.{script_named}
use Rattle.sieve_meaning.specs.Reading.{program_of}
use Rattle.sieve_library.specs.BorrowedShelves.{scripts_of}
use Rattle.sieve_library.specs.Libraries.{library_of}
use Rattle.sieve_evaluator.specs.Case.{facts_of}
use Rattle.sieve_evaluator.specs.Runs.{ending_at, entry_ending, filing_of, includes_at}
use Rattle.sieve_meaning.specs.Scripts.{include_view, script_of}
use Rattle.sieve_evaluator.proofs.IncludeLemmas.{among_told, not_passed, included_active, included_entered}
use Rattle.sieve_evaluator.proofs.includes.run_include.Goals as goal

pub returns-then-is_among : goal.returns-then-is_among
returns-then-is_among g c =
    let s = c.args.scope.now in
    let i = include_view c.args.include.now in
    let script = program_of (tree_of c.in-Some.script.now.script) in
    included_active (facts_of s.case.now) (library_of (scripts_of s.shelves)) g.L.Level.depth
    (map script_of s.chain.now) i (filing_of c.args.filing.now) script
    (not_passed i.once c.args.filing.now.entered.items c.args.filing.now.entered.items (script_named i) c.is_passed.result
    refl c.is_passed.ensures c.if-is_passed.false)
    (ap (option_map (λ x. program_of (tree_of x))) (sym c.in-Some.ensures))
    (among_told s.chain.now (script_named i) c.is_among.result _ c.is_among.ensures c.if-is_among.true)

pub returns : goal.returns
returns g c =
    let s = c.args.scope.now in
    let facts = facts_of s.case.now in
    let lib = library_of (scripts_of s.shelves) in
    let left = g.L.Level.depth in
    let chain = map script_of s.chain.now in
    let i = include_view c.args.include.now in
    let f = filing_of c.args.filing.now in
    let script = program_of (tree_of c.script.result.now) in
    IfOk-weaker c.enter.result (λ e. ending_at e c.enter.new.filing ≡ entry_ending facts lib left chain i script f)
    (λ e. ending_at e c.enter.new.filing ≡ includes_at left s i f)
    (λ e ran. included_entered facts lib left chain i f script (ending_at e c.enter.new.filing)
    (not_passed i.once c.args.filing.now.entered.items c.args.filing.now.entered.items (script_named i) c.is_passed.result
    refl c.is_passed.ensures c.if-is_passed.false)
    (ap (option_map (λ x. program_of (tree_of x))) (sym c.in-Some.ensures) ∙ ap (λ x. Some (program_of (tree_of x))) (sym c.script.ensures.value))
    (among_told s.chain.now (script_named i) c.is_among.result _ c.is_among.ensures c.if-is_among.false) ran) c.enter.ensures
