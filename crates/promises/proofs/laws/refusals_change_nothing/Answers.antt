use Rattle.promises.proofs.RefusedAnywhere.{no_memory_at_registry, unchanged_at_registry}
use Rattle.promises.proofs.Unchanged.{refused_unchanged, steps_kept}
use Rattle.promises.proofs.laws.refusals_change_nothing.Goals as goal

pub returns-clause-unchanged : goal.returns-clause-unchanged
returns-clause-unchanged g c = refused_unchanged

pub returns-clause-no_memory : goal.returns-clause-no_memory
returns-clause-no_memory g c = steps_kept

pub returns-clause-registry : goal.returns-clause-registry
returns-clause-registry g c = unchanged_at_registry g.R.Registry.keeper

pub returns-clause-registry_no_memory : goal.returns-clause-registry_no_memory
returns-clause-registry_no_memory g c = no_memory_at_registry g.R.Registry.keeper
