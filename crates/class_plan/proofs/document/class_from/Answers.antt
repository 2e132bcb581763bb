use Rattle.std.proofs.Common.{true, false, codes, ◌≡◌, sym, ◌∙◌, rules}
use Rattle.std.specs.Str.{bytes_eq}
use Rattle.class_plan.specs.Document.{class_of}
use Rattle.class_plan.proofs.Classes.{checked-closed, checked-open, checked-other}
use Rattle.class_plan.proofs.document.class_from.Goals as goal
use Rattle.class_plan.proofs.document.class_from.Goals.{else-eq-via-then-eq+else-not-is_open, else-eq-via-else-eq}

pub returns-then-not-has_only_class_keys : goal.returns-then-not-has_only_class_keys
unfolding class_of
returns-then-not-has_only_class_keys c = search rules

pub returns-in_default : goal.returns-in_default
unfolding class_of
returns-in_default c = search rules

pub returns-in_default-openness : goal.returns-in_default-openness
unfolding class_of
returns-in_default-openness c = search rules

pub returns-in_default-statement : goal.returns-in_default-statement
unfolding class_of
returns-in_default-statement c = search rules

pub returns-then-not-is_open : goal.returns-then-not-is_open
unfolding class_of
returns-then-not-is_open c =
    let x : bytes_eq c.in-Some.path.now (codes "unfiled") ≡ true = sym c.eq.ensures ∙ c.if-eq.true in
    let e = checked-closed c.in-Some.path.now c.in-Some-openness.is_open c.in-Some-statement.stated x c.if-not-is_open.true in
    search rules

pub returns : goal.returns
unfolding class_of
returns c =
    rw c.as_bytes.ensures.value (elim c.else-eq.branch [
      | else-eq-via-then-eq+else-not-is_open w ↦
          let e = checked-open c.in-Some.path.now c.in-Some-openness.is_open c.in-Some-statement.stated w.if-not-is_open.false in
          search rules
      | else-eq-via-else-eq w ↦
          let x : bytes_eq c.in-Some.path.now (codes "unfiled") ≡ false = sym c.eq.ensures ∙ w.if-eq.false in
          let e = checked-other c.in-Some.path.now c.in-Some-openness.is_open c.in-Some-statement.stated x in
          search rules
    ])
