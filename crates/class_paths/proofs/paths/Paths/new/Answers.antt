use Rattle.class_paths.proofs.PathLemmas.{none_increasing}
use Rattle.class_paths.proofs.paths.Paths.new.Goals as goal

pub invariant_of-result : goal.invariant_of-result
invariant_of-result c = rw c.new.ensures.items none_increasing
