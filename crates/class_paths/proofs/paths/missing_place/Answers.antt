use Rattle.std.proofs.Common.{rules}
use Rattle.std.specs.Cmp.Lexicographic.{slice_cmp}
use Rattle.std.specs.Ordering.{nat_cmp}
use Rattle.std.proofs.lemmas.Fn.{always_returns_same}
use Rattle.class_paths.proofs.PathLemmas.{comparisons_rise, insert_path_there, insert_path_missing}
use Rattle.class_paths.proofs.paths.missing_place.Goals as goal

pub returns-in-Ok-clause-there : goal.returns-in-Ok-clause-there
returns-in-Ok-clause-there c =
    let found = c.in-Ok.ensures.position (λ q. slice_cmp nat_cmp q c.args.path.now) (always_returns_same _ _ _ (λ a r f called. search rules)) in
    insert_path_there c.args.items.now c.args.path.now c.in-Ok.field-0 c.requires c.in-Ok.ensures.bound found

pub returns-in-Err-clause-missing : goal.returns-in-Err-clause-missing
returns-in-Err-clause-missing c =
    let place = c.in-Err.ensures.position (λ q. slice_cmp nat_cmp q c.args.path.now) (always_returns_same _ _ _ (λ a r f called. search rules)) in (
      c.in-Err.ensures.bound,
      insert_path_missing c.args.items.now c.args.path.now c.in-Err.at c.in-Err.ensures.bound
          (place (comparisons_rise c.args.items.now c.args.path.now c.requires)),
    )
