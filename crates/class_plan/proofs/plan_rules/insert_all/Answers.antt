use Rattle.std.proofs.Common.{◌≡◌, ◌<◌, ◌+◌, ◌||◌, [], ◌∷◌, map, drop, length, get_or, is_some, false, sym, ap, ◌∙◌, rules}
use Rattle.std.proofs.lemmas.List.{drop_more, drop_all}
use Rattle.class_plan.specs.declared.entries.Listed.{Listed}
use Rattle.class_plan.specs.declared.entries.Stated.TheVariants.{Nothing}
use Rattle.class_plan.specs.Plans.{with_row, has}
use Rattle.class_plan.specs.Fields.{rows, rows_in}
use Rattle.class_plan.specs.Entries.{entry_view, row_of, own_of}
use Rattle.class_plan.proofs.Found.{rows-insert, found-is, row-same}
use Rattle.class_plan.proofs.Twice.{rows-step, again-step, again-none, again-all}
use Rattle.class_plan.proofs.plan_rules.insert_all.Goals as goal
use Rattle.class_plan.proofs.plan_rules.insert_all.Goals.{then-is_twice, else-is_twice}

none : Listed
none = record { path = record { ref_ptr = (0, 0); now = [] }; is_open = false; stated = Nothing }

pub loop-class-preserved : goal.loop-class-preserved
unfolding none
loop-class-preserved c =
    let x = get_or c.args.listed.now c.loop-class.class-index none in
    let h : c.loop-class.class-index < length c.args.listed.now = search rules in
    let cut : map entry_view (drop c.loop-class.class-index c.args.listed.now) ≡ entry_view x
    ∷ map entry_view (drop (c.loop-class.class-index + 1) c.args.listed.now) =
    ap (map entry_view) (drop_more c.args.listed.now c.loop-class.class-index none h) in
    let path : c.in_ok-path.path.items ≡ x.path.now = c.in_ok-path.ensures.items in
    let own : c.own_schedule.result ≡ own_of x.stated = c.own_schedule.ensures in
    let same = row-same _ _ x.is_open _ _ path own in
    let more : rows_in c.insert.new.self ≡ with_row (row_of (entry_view x)) (rows_in c.loop-class.classes) =
    ap rows c.in_ok-old.ensures.entries ∙ rows-insert c.loop-class.classes.entries c.in_ok-path.path _
    ∙ ap (λ r. with_row r (rows_in c.loop-class.classes)) same in
    let old : is_some c.in_ok-old.old ≡ has (rows_in c.loop-class.classes) x.path.now =
    ap is_some c.in_ok-old.ensures.old ∙ found-is c.in_ok-path.path.items c.loop-class.classes.entries
    ∙ ap (has (rows_in c.loop-class.classes)) path in
    let joins : c.if-is_twice.is_twice ≡ (c.loop-class.is_twice || is_some c.in_ok-old.old) =
    elim c.if-is_twice.branch [ then-is_twice w ↦ search rules | else-is_twice w ↦ search rules ] in
    record {
      rows = rows-step (map entry_view c.args.listed.now) _ _ (entry_view x) _ _ cut more c.loop-class.invariant.rows;
      twice = again-step (map entry_view c.args.listed.now) _ _ (entry_view x) _ _ _ _ _ cut more old joins c.loop-class.invariant.twice;
    }

pub returns-clause-twice : goal.returns-clause-twice
returns-clause-twice c =
    let done : map entry_view (drop c.loop-class.class-index c.args.listed.now) ≡ [] =
    ap (map entry_view) (drop_all c.loop-class.class-index c.args.listed.now c.loop-class-test.false) in
    sym (again-none (map entry_view c.args.listed.now) ∙ again-all (map entry_view c.args.listed.now) _ _ _ done c.loop-class.invariant.twice)
