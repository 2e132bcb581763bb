use Rattle.std.proofs.Common.{◌≡◌, subst, arith}
use Rattle.class_paths.specs.Paths.{insert_path, IsIncreasing}
use Rattle.class_paths.proofs.PathLemmas.{insert_path_increasing}
use Rattle.class_paths.proofs.paths.Paths.insert.Goals as goal

pub invariant_of-self-2 : goal.invariant_of-self-2
invariant_of-self-2 c =
    let same : insert_path c.args.path.now c.self.inside.items.items ≡ c.insert.new.self.items = grind arith in
    subst IsIncreasing same (insert_path_increasing _ _ c.self.invariant)
