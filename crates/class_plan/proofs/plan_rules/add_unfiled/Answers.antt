use Rattle.std.proofs.Common.{◌≡◌, refl, sym, ap, ◌∙◌, not, true, false, None, is_some, List}
use Rattle.class_paths.specs.Path.{unfiled}
use Rattle.class_plan.specs.Fields.{rows, rows_in}
use Rattle.class_plan.specs.Entries.{with_unfiled}
use Rattle.class_plan.specs.Plans.{Row, row_at, with_row, open_row}
use Rattle.class_plan.proofs.Found.{rows-insert, row-same}
use Rattle.class_plan.proofs.plan_rules.add_unfiled.Goals as goal
use Rattle.class_plan.proofs.plan_rules.add_unfiled.Goals.{then-is_none+in_ok-path+in_ok-insert, else-is_none}

there : (rs : List Row) → is_some (row_at unfiled rs) ≡ true → rs ≡ with_unfiled rs
there rs e = rw e

not_there : (rs : List Row) → is_some (row_at unfiled rs) ≡ false → with_row (open_row unfiled) rs ≡ with_unfiled rs
not_there rs e = rw e

pub returns : goal.returns
returns c = elim c.if-is_none.branch [
  | then-is_none+in_ok-path+in_ok-insert w ↦
      let no : is_some (row_at unfiled (rows_in c.args.classes)) ≡ false = sym c.class_at.ensures.some
      ∙ c.is_none.ensures ∙ ap not w.if-is_none.true in
      let path : w.in_ok-path.path.items ≡ unfiled = w.in_ok-path.ensures.items in
      ap rows_in w.classes-is ∙ ap rows w.in_ok-insert.ensures.entries
      ∙ rows-insert c.args.classes.entries w.in_ok-path.path _
      ∙ ap (λ r. with_row r (rows_in c.args.classes)) (row-same _ _ true None None path refl)
      ∙ not_there (rows_in c.args.classes) no
  | else-is_none w ↦
      let yes : is_some (row_at unfiled (rows_in c.args.classes)) ≡ true = sym c.class_at.ensures.some
      ∙ c.is_none.ensures ∙ ap not w.if-is_none.false in
      ap rows_in w.classes-is ∙ there (rows_in c.args.classes) yes
]
