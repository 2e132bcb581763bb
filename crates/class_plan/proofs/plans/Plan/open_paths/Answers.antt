use Rattle.std.proofs.Common.{◌≡◌, [], ap, sym, ◌∙◌, rules}
use Rattle.std.proofs.lemmas.Map.Iter.{rest_more, rest_all}
use Rattle.std.specs.Map.Iter.{deref_pair}
use Rattle.class_plan.specs.Plans.{is_among, is_open_in, open_paths_of}
use Rattle.class_plan.specs.Fields.{rows, rows_in}
use Rattle.class_plan.proofs.OpenPaths.{open-paths_are}
use Rattle.class_plan.proofs.Opened.{collected, collected-all, collected-open, items_of}
use Rattle.class_plan.proofs.plans.Plan.open_paths.Goals as goal

pub loop-path-preserved-in_ok-insert : goal.loop-path-preserved-in_ok-insert
loop-path-preserved-in_ok-insert c =
    let rest = rest_more deref_pair c.loop-path.path-iterator c.next.new.self c.next.result (
      c.in-Some.path,
      c.in-Some.class,
    ) c.in-Some.is c.next.ensures.steps in
    let same : c.in_ok-from_slice.field-0.items ≡ c.in-Some.path.now.items = c.in_ok-from_slice.ensures.items ∙ c.as_slice.ensures.value in
    record {
      can = search rules;
      finite = search rules;
      kept =
          collected-open c.loop-path.paths.keys _ c.in_ok-from_slice.field-0 (
            c.in-Some.path.now,
            c.in-Some.class.now,
          ) _ _ _ rest c.if-class.true c.in_ok-insert.ensures.keys same c.loop-path.invariant.kept;
    }

pub returns-clause-paths : goal.returns-clause-paths
returns-clause-paths c =
    let rest = rest_all deref_pair c.loop-path.path-iterator c.next.new.self c.next.result c.in-None.is c.next.ensures.steps in
    sym (ap (λ it. collected (items_of c.loop-path.paths.keys) (rows it)) rest) ∙ c.loop-path.invariant.kept
    ∙ ap (λ p. collected [] p.rows) (sym c.self.view_is)
    ∙ collected-all (rows_in c.self.inside.classes) c.self.invariant.in_order ∙ ap open_paths_of c.self.view_is

pub returns-clause-among : goal.returns-clause-among
returns-clause-among c = ap is_among (returns-clause-paths c)
    ∙ ap (λ p. is_among (open_paths_of p)) (sym c.self.view_is) ∙ open-paths_are _ c.self.invariant
    ∙ ap is_open_in c.self.view_is
