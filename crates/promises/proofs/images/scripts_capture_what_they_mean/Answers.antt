use Rattle.promises.proofs.ImageLemmas.{means, means_fault_alone}
use Rattle.promises.proofs.Verdicts.{one_script}
use Rattle.promises.proofs.images.scripts_capture_what_they_mean.Goals as goal

pub returns-clause-text : goal.returns-clause-text
returns-clause-text c =
    one_script (record {
      one_scan = c.one_scan.ensures;
      no_both = c.one_verdict.ensures.tokens;
      one_fault =
          c.one_verdict.ensures.refusal;
      at_most_one = c.one_tree.ensures;
    })

pub returns-clause-runs : goal.returns-clause-runs
returns-clause-runs c = means c.every_run_ends.ensures.ends c.a_run_ends_once.ensures.steps c.pinned_runs_end_alone.ensures.too_heavy

pub returns-clause-fault : goal.returns-clause-fault
returns-clause-fault c = means_fault_alone
