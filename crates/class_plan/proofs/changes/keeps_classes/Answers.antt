use Rattle.std.proofs.Common.{◌≡◌, not, sym, ap, ◌∙◌, true, false}
use Rattle.std.proofs.lemmas.Map.Iter.{rest_more, rest_all}
use Rattle.std.specs.Map.Iter.{deref}
use Rattle.std.specs.BTreeMap.{keys}
use Rattle.class_plan.specs.Plans.{has}
use Rattle.class_plan.specs.Fields.{rows_in}
use Rattle.class_plan.proofs.Kept.{kept-rows, kept-less, kept-all}
use Rattle.class_plan.proofs.changes.keeps_classes.Goals as goal

pub returns-then-is_none : goal.returns-then-is_none
returns-then-is_none c =
    let rest = rest_more deref c.loop-path.path-iterator c.next.new.self c.next.result c.in-Some.path c.in-Some.is c.next.ensures.steps in
    let has : has (rows_in c.args.new.now) c.in-Some.path.now.items ≡ false =
    sym (ap (has (rows_in c.args.new.now)) c.as_slice.ensures.value) ∙ sym c.class_at.ensures.some
    ∙ c.is_none.ensures ∙ ap not c.if-is_none.true in
    sym (kept-less (rows_in c.args.new.now) _ (keys c.args.old.now) _ _ rest c.loop-path.invariant.kept has)
    ∙ kept-rows (rows_in c.args.new.now) c.args.old.now.entries

pub returns : goal.returns
returns c =
    let rest = rest_all deref c.loop-path.path-iterator c.next.new.self c.next.result c.in-None.is c.next.ensures.steps in
    sym (kept-all (rows_in c.args.new.now) (keys c.args.old.now) _ rest c.loop-path.invariant.kept)
    ∙ kept-rows (rows_in c.args.new.now) c.args.old.now.entries
