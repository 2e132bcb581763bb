use Rattle.std.proofs.Common.{◌∙◌, List, [], None, Err, ap, refl, subst, sym}
use Rattle.sieve_syntax.specs.View.{tree_of}
use Rattle.sieve_meaning.specs.Reading.{program_of}
use Rattle.sieve_library.specs.Libraries.{NamedScript}
use Rattle.desk_commands.specs.Scripts.{library, meanings_of}
use Rattle.desk_officers.specs.Filed.{IsImageNow}
use Rattle.filing_desk.proofs.OutcomeLemmas.{heavy_outcome, ok_is_no_fault, outcome_same}
use Rattle.filing_desk.proofs.dry_runs.outcome_of.Goals as goal

pub outcome_and_keep-requires : goal.outcome_and_keep-requires
outcome_and_keep-requires g c =
    let P : List NamedScript → Type 0 = λ globals. IsImageNow globals c.args.text.now c.in-Ok.image in
    subst P c.globals.ensures (record {
      short = c.requires.short;
      tree = tree_of c.args.script.now.script;
      good = c.requires.good;
      light = λ heavy.
          ok_is_no_fault _ _ ((c.in-Ok.ensures.too_large (ok_is_no_fault _ _)).1 heavy);
      compiled = c.in-Ok.ensures.compiled;
    })

pub returns-in_ok-outcome-in-Err-TooLarge-clause-outcome : goal.returns-in_ok-outcome-in-Err-TooLarge-clause-outcome
returns-in_ok-outcome-in-Err-TooLarge-clause-outcome g c =
    let facts = g.C.Case.facts c.args.case.now in
    let main = program_of (tree_of c.args.script.now.script) in
    let refused = ap (λ f. Err f) c.in-Err-TooLarge.field-0-is in
    let heavy = (c.in-Err-TooLarge.ensures.too_large (λ none. cc (refused, none))).0 refused in
    outcome_same c.globals.ensures refl (record {
      tree = tree_of c.args.script.now.script;
      good = c.requires.good;
      outcome =
          c.in_ok-outcome-in-Err-TooLarge.ensures.at_end
          ∙ sym (heavy_outcome facts (library [] (meanings_of c.globals.result.now)) None main heavy);
    })
