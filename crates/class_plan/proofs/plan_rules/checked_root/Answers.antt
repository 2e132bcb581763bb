use Rattle.std.proofs.Common.{◌≡◌, ◌||◌, false, not, map, length, is_some, unwrap_or, refl, sym, ap, ◌∙◌}
use Rattle.std.proofs.lemmas.List.{length-map}
use Rattle.std.specs.List.{list_any}
use Rattle.class_plan.specs.declared.faults.PlanFault.TheVariants.{BadPath, ParentMissing, BadSchedule}
use Rattle.class_plan.specs.declared.schedules.Schedule.TheVariants.{Permanent}
use Rattle.class_plan.specs.Fields.{row, rows_in}
use Rattle.class_plan.specs.Entries.{entry_view, is_faulty, contents, contents_faults}
use Rattle.class_plan.proofs.Judging.{HasGoodPaths, test-path, test-schedule, test-parent, test-many, test-few}
use Rattle.class_plan.proofs.Judging.{end-path, end-parent, end-twice, end-schedule, end-many, end-well}
use Rattle.class_plan.proofs.Keeping.{sorted-rows}
use Rattle.class_plan.proofs.plan_rules.checked_root.Goals.{After-has_bad_path, After-lacks_parent, After-has_bad_schedule, After-len}
use Rattle.class_plan.proofs.plan_rules.checked_root.Goals as goal

-- what the tests answer is whether there is the fault
bad_path : (c : After-has_bad_path) → contents_faults (contents c.args.root c.args.listed.now) BadPath ≡ c.has_bad_path.result
bad_path c = sym (test-path c.args.listed.now) ∙ sym c.has_bad_path.ensures

no_bad_path : (c : After-lacks_parent) → contents_faults (contents c.args.root c.args.listed.now) BadPath ≡ false
no_bad_path c = bad_path (goal.at.After-lacks_parent c).After-has_bad_path ∙ c.if-has_bad_path.false

no_parent : (c : After-lacks_parent) → contents_faults (contents c.args.root c.args.listed.now) ParentMissing ≡ c.lacks_parent.result
no_parent c = sym (test-parent c.args.listed.now (rows_in c.args.gathered.now.classes) c.requires.rows) ∙ sym c.lacks_parent.ensures

good_paths : (c : After-lacks_parent) → c.lacks_parent.result ≡ false → c.args.gathered.now.is_twice ≡ false
    → HasGoodPaths (contents_faults (contents c.args.root c.args.listed.now))
good_paths c parent twice = record { path = no_bad_path c; parent = no_parent c ∙ parent; twice = sym c.requires.twice ∙ twice }

bad_schedule : (c : After-has_bad_schedule) → contents_faults (contents c.args.root c.args.listed.now) BadSchedule ≡ c.has_bad_schedule.result
bad_schedule c =
    ap (λ o. not (is_some o) || list_any (λ e. is_faulty e.stated) (map entry_view c.args.listed.now)) c.in-Some.is
    ∙ sym (test-schedule c.args.listed.now) ∙ sym c.has_bad_schedule.ensures

count : (c : After-len) → length (rows_in c.args.gathered.now.classes) ≡ c.len.result
count c = length-map c.args.gathered.now.classes.entries row ∙ sym c.len.ensures.len

pub returns-then-has_bad_path-clause-judged : goal.returns-then-has_bad_path-clause-judged
returns-then-has_bad_path-clause-judged c =
    let at = (goal.at.returns-then-has_bad_path-clause-judged c).After-has_bad_path in
    sym (end-path (contents_faults (contents c.args.root c.args.listed.now)) _ refl refl (bad_path at ∙ c.if-has_bad_path.true))

pub returns-then-lacks_parent-clause-judged : goal.returns-then-lacks_parent-clause-judged
returns-then-lacks_parent-clause-judged c =
    let at = (goal.at.returns-then-lacks_parent-clause-judged c).After-lacks_parent in
    sym (end-parent (contents_faults (contents c.args.root c.args.listed.now)) _ refl refl (no_bad_path at) (no_parent at ∙ c.if-lacks_parent.true))

pub returns-then-gathered-clause-judged : goal.returns-then-gathered-clause-judged
returns-then-gathered-clause-judged c =
    let at = (goal.at.returns-then-gathered-clause-judged c).After-lacks_parent in
    sym (end-twice (contents_faults (contents c.args.root c.args.listed.now)) _ refl refl (no_bad_path at) (no_parent at ∙ c.if-lacks_parent.false)
    (sym c.requires.twice ∙ c.if-gathered.true))

pub returns-in_default-clause-judged : goal.returns-in_default-clause-judged
returns-in_default-clause-judged c =
    let at = (goal.at.returns-in_default-clause-judged c).After-lacks_parent in
    let schedule = ap (λ o. not (is_some o) || list_any (λ e. is_faulty e.stated) (map entry_view c.args.listed.now)) c.in_default.is in
    sym (end-schedule _ _ refl refl (good_paths at c.if-lacks_parent.false c.if-gathered.false) schedule)

pub returns-then-has_bad_schedule-clause-judged : goal.returns-then-has_bad_schedule-clause-judged
returns-then-has_bad_schedule-clause-judged c =
    let at = goal.at.returns-then-has_bad_schedule-clause-judged c in
    sym (end-schedule _ _ refl refl (good_paths at.After-lacks_parent c.if-lacks_parent.false c.if-gathered.false)
    (bad_schedule at.After-has_bad_schedule ∙ c.if-has_bad_schedule.true))

pub returns-then-len-gt-MAX_CLASSES-clause-judged : goal.returns-then-len-gt-MAX_CLASSES-clause-judged
returns-then-len-gt-MAX_CLASSES-clause-judged c =
    let at = goal.at.returns-then-len-gt-MAX_CLASSES-clause-judged c in
    let over = rw (← count at.After-len) at c.if-len-gt-MAX_CLASSES.true in
    sym (end-many _ _ refl refl (good_paths at.After-lacks_parent c.if-lacks_parent.false c.if-gathered.false)
    (bad_schedule at.After-has_bad_schedule ∙ c.if-has_bad_schedule.false)
    (test-many (map entry_view c.args.listed.now) _ (sym c.requires.twice ∙ c.if-gathered.false) c.requires.rows over))

pub returns-clause-judged : goal.returns-clause-judged
returns-clause-judged c =
    let at = goal.at.returns-clause-judged c in
    let under = rw (← count at.After-len) at c.if-len-gt-MAX_CLASSES.false in
    let few = test-few (map entry_view c.args.listed.now) _ (sym c.requires.twice ∙ c.if-gathered.false) c.requires.rows under in
    let root : c.in-Some.root ≡ unwrap_or c.args.root Permanent = ap (λ o. unwrap_or o Permanent) (sym c.in-Some.is) in
    rw root (sym (end-well _ _ refl refl (good_paths at.After-lacks_parent c.if-lacks_parent.false c.if-gathered.false)
    (bad_schedule at.After-has_bad_schedule ∙ c.if-has_bad_schedule.false) few refl))

pub returns-clause-in_order : goal.returns-clause-in_order
returns-clause-in_order c = sorted-rows c.args.gathered.now.classes.entries c.len.ensures.ordered
