use Rattle.std.proofs.Common.{◌≡◌, [], map}
use Rattle.tool_inquiry.proofs.PathLemmas.{with_paths}
use Rattle.tool_inquiry.proofs.answers.paths_in.Given as goal

abbrev pub invariant-loop-path : goal.invariant-loop-path
invariant-loop-path l = record {
  can : (goal.iterator-loop-path).can_next l.path-iterator;
  finite : (goal.iterator-loop-path).is_finite l.path-iterator;
  kept : with_paths l.paths (map (λ v. v.items) l.path-iterator) ≡ with_paths [] (map (λ v. v.items) l.opened.keys);
}
