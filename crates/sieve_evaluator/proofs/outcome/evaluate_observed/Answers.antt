use Rattle.std.proofs.Common.{refl, false, map, ap, ◌∙◌}
use Rattle.std.specs.Prelude.{option_map}
use Rattle.sieve_syntax.specs.View.{tree_of}
use Rattle.sieve_library.specs.BorrowedShelves.{scripts_of}
use Rattle.sieve_library.specs.Libraries.{library_of}
use Rattle.sieve_evaluator.specs.Case.{facts_of}
use Rattle.sieve_meaning.specs.Scripts.{script_of}
use Rattle.sieve_evaluator.proofs.OutcomeLemmas.{outcome_of_run}
use Rattle.sieve_evaluator.proofs.outcome.evaluate_observed.Goals as goal

pub returns : goal.returns
returns g c =
    c.in_ok-outcome.ensures ∙
    outcome_of_run (facts_of c.args.case.now) (library_of (scripts_of c.args.shelves)) (option_map (λ s.
    s.now) c.args.known_as) (tree_of c.args.main.now) (map script_of c.as_slice.result.now) c.in_ok-ending.ending
    c.run.new.filing (record {
      filed = c.new.result;
      kept = false;
      cancelled = false;
      entered =
          c.in_ok-entered.entered;
    })
    (ap (map script_of) c.as_slice.ensures.value ∙ c.in_ok-chain.ensures) c.new.ensures refl refl c.in_ok-entered.ensures c.in_ok-ending.ensures
