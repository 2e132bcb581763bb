use Rattle.std.proofs.Common.{◌≡◌, ◌∙◌, arith, ap, subst, true, rules}
use Rattle.class_plan.specs.Plans.{has}
use Rattle.class_plan.specs.Calendar.{due_on}
use Rattle.record_tables.specs.CodeRows.{record_of}
use Rattle.record_archive.specs.Archive.{Archive}
use Rattle.record_store.proofs.Causes.{not_own-trouble, record_is_sound}
use Rattle.record_store.proofs.store.Store.judge_refiling.Goals as goal

pub returns-in-Ok-clause-tells : goal.returns-in-Ok-clause-tells
returns-in-Ok-clause-tells g c = λ (a : Archive) s.
    let t = c.in_ok-record.ensures.tells a s in
    let q = c.args.path.now in
    let r = record_of c.in_ok-record.record in (
      t.0,
      λ clean. record {
        at = r;
        found = t.1 clean;
        live = c.if-record.false;
        class = subst (λ p. has p.rows q ≡ true) t.0.plan c.in-Ok.ensures.class;
        due_is = c.in-Ok.ensures.due ∙ ap (λ p. due_on p q r.day) t.0.plan;
      },
    )

pub returns-clause-behaves : goal.returns-clause-behaves
returns-clause-behaves g c = record {
  falls = search rules;
  cause = λ (a : Archive) s clean.
      let sound = record_is_sound a c.args.number (record_of c.in_ok-record.record) s.archive ((c.in_ok-record.ensures.tells a s).1 clean) in
      not_own-trouble c.in-Err.fault (λ told. let late = c.in-Err.ensures.lost told in omega (arith, late, sound.day));
  «open» = search rules;
}
