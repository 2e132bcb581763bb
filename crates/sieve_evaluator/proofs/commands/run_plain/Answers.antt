use Rattle.std.proofs.Common.{◌≡◌}
use Rattle.std.proofs.lemmas.Result.{IfOk-weaker}
use Rattle.sieve_evaluator.specs.Case.{facts_of}
use Rattle.sieve_evaluator.specs.Runs.{filing_of, ending_at, includes_at, PlainlyEnds}
use Rattle.sieve_meaning.specs.Scripts.{include_view}
use Rattle.sieve_evaluator.proofs.RunLemmas.{include_ends}
use Rattle.sieve_evaluator.proofs.commands.run_plain.Goals as goal

pub returns-in-Include : goal.returns-in-Include
returns-in-Include g c =
    let s = c.args.scope.now in
    let facts = facts_of s.case.now in
    let inc = includes_at g.L.Level.depth s in
    let f = filing_of c.args.filing.now in
    let i = include_view c.include.result in
    λ _. IfOk-weaker c.run_include.result (λ e. ending_at e c.run_include.new.filing ≡ inc i f) (λ e.
    PlainlyEnds facts inc c.args.word c.args.arguments.now f (ending_at e c.run_include.new.filing))
    (λ e told. include_ends facts inc c.args.word c.args.arguments.now i f (ending_at e c.run_include.new.filing)
    c.in-Include.is c.include.ensures told) c.run_include.ensures
