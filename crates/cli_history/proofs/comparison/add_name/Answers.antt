use Rattle.std.proofs.Common.{◌≡◌, ◌==◌, ℕ, Some, cond}
use Rattle.std.specs.BTreeMap.{get}
use Rattle.std.specs.Ordering.{nat_cmp}
use Rattle.std.proofs.lemmas.Result.{on_ok_weaker}
use Rattle.cli_history.proofs.ComparisonLemmas.{name_added}
use Rattle.cli_history.proofs.comparison.add_name.Goals as goal

pub returns : goal.returns
returns c =
    let number = c.args.hold.now.number in
    let old = get nat_cmp c.args.held.now in
    let mid = get nat_cmp c.take_names-names.new.held in
    let new = get nat_cmp c.keep_names.new.held in
    let added = c.push.new.self in
    on_ok_weaker c.keep_names.result (λ (kept : (n : ℕ) → new n ≡ cond (n == number) (Some added) (mid n)).
    name_added old mid new number c.take_names-names.result added c.as_slice.result c.args.hold.now.name.items c.as_slice.ensures.value
    c.take_names-names.ensures.names c.take_names-names.ensures.others c.in_ok-push.ensures.items kept) c.keep_names.ensures
