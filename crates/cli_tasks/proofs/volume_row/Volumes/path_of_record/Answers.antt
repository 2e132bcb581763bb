use Rattle.cli_console.specs.declared.failure.Status.TheVariants.{BadData, Usage}
use Rattle.cli_tasks.proofs.DoneLemmas.{told_of_memory}
use Rattle.cli_tasks.proofs.volume_row.Volumes.path_of_record.Goals as goal

pub returns-clause-found : goal.returns-clause-found
returns-clause-found c = record {
  volume = c.in_ok-volume.volume;
  typed_so = c.in_ok-volume.ensures.typed;
  within = c.in_ok-volume.ensures.within;
  path_is = c.in_ok-found.ensures;
}

pub returns-in_err-found-clause-without : goal.returns-in_err-found-clause-without
returns-in_err-found-clause-without c = λ none.
    told_of_memory c.from_residual-in_err-found.result Usage c.from_residual-in_err-found.ensures.1

pub returns-in_err-found-clause-above : goal.returns-in_err-found-clause-above
returns-in_err-found-clause-above c = λ v some.
    told_of_memory c.from_residual-in_err-found.result BadData c.from_residual-in_err-found.ensures.1
