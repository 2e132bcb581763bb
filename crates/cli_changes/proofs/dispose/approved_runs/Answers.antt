use Rattle.std.proofs.Common.{◌∙◌, sym}
use Rattle.record_archive.specs.Archive.{Archive}
use Rattle.cli_changes.proofs.RunLaws.{none_refused, unaltered_all}
use Rattle.cli_changes.proofs.dispose.approved_runs.Goals as goal

pub returns-clause-these : goal.returns-clause-these
returns-clause-these g c = λ clean (a : Archive) s.
    let told = c.in_ok-runs.ensures.told clean a s in
    record {
      each_once = told.each_once;
      may_go = told.may_go;
      unaltered = λ refused.
          unaltered_all c.args.seals.now a c.in_ok-runs.field-0.runs.items
          (sym (c.as_slice.ensures.value ∙ c.in_ok-runs.ensures.altered)
          ∙ none_refused c.as_slice.result.now c.args.damage refused c.in_ok-judge_altered.ensures.goes_on)
          told.noted;
    }
