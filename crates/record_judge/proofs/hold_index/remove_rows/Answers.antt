use Rattle.std.proofs.Common.{◌≡◌, Some, true, option_map, subst, arith, rules}
use Rattle.std.specs.Prelude.{slice_get}
use Rattle.std.proofs.lemmas.Fn.{filter_same}
use Rattle.record_judge.specs.Holds.{is_hold_of}
use Rattle.record_judge.proofs.RemovalLemmas.{none_left, only_left}
use Rattle.record_judge.proofs.hold_index.remove_rows.Goals as goal

pub returns-then-count-eq0 : goal.returns-then-count-eq0
returns-then-count-eq0 c =
    none_left (is_hold_of c.args.name.now c.args.number) c.args.count c.args.rows.now.items (omega (arith, c.if-count-eq0.true))

pub returns-in-Some : goal.returns-in-Some
returns-in-Some c =
    let is = is_hold_of c.args.name.now c.args.number in
    only_left is c.in-Some.place c.args.count c.args.rows.now.items _ (omega (arith, c.if-count-eq1.true))
    (subst (λ l. option_map is (slice_get l c.in-Some.place) ≡ Some true) c.as_slice.ensures.value c.in-Some.ensures)
    c.remove-hold.ensures.by_index.2

pub returns : goal.returns
returns c = λ all. filter_same _ _ _ (λ x b f' k. search rules) _ _ c.retain.ensures.filtered
