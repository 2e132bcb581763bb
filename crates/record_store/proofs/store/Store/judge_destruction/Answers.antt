use Rattle.std.proofs.Common.{◌≡◌, ◌==◌, arith, subst, Some, None, Err, rules}
use Rattle.record_tables.specs.CodeRows.{record_of}
use Rattle.record_archive.specs.Archive.{Archive, destroy_by, record_at}
use Rattle.record_archive.specs.declared.fault.ArchiveRefusal.TheVariants.{Held}
use Rattle.record_store.specs.Destruction.{against_destruction}
use Rattle.record_store.proofs.Causes.{not_own-trouble, record_is_sound}
use Rattle.record_store.proofs.DueLemmas.{held_if, free_if}
use Rattle.record_store.proofs.DestroyLemmas.{refused_held, refused_by_plan, may_go}
use Rattle.record_store.proofs.store.Store.judge_destruction.Goals as goal

pub returns-then-count-gt0-clause-tells : goal.returns-then-count-gt0-clause-tells
returns-then-count-gt0-clause-tells g c = λ (a : Archive) s.
    let t = c.in_ok-record.ensures.tells a s in (
      t.0,
      λ clean q is.
          let same : Held ≡ q = cc in
          subst (λ k. destroy_by a c.args.number c.args.day (record_at a c.args.number) ≡ Err k) same
          (refused_held a c.args.number c.args.day (record_of c.in_ok-record.record) (t.1 clean) c.if-record.false
          (held_if (λ h. h.number == c.args.number) a.holds (omega (arith, c.count.ensures, t.0.held c.args.number, c.if-count-gt0.true)))),
    )

pub returns-in-Err-clause-tells : goal.returns-in-Err-clause-tells
returns-in-Err-clause-tells g c = λ (a : Archive) s.
    let t = c.in_ok-record.ensures.tells a s in
    let n = c.args.number in
    let r = record_of c.in_ok-record.record in
    let free = free_if (λ h. h.number == n) a.holds (omega (arith, c.count.ensures, t.0.held n, c.if-count-gt0.false)) in (
      t.0,
      λ clean q is.
          refused_by_plan a n c.args.day r q (t.1 clean) c.if-record.false free (subst (λ p.
          against_destruction p c.args.day r ≡ Some q) t.0.plan (c.in-Err.ensures.err q is)),
    )

pub returns-in-Ok-clause-tells : goal.returns-in-Ok-clause-tells
returns-in-Ok-clause-tells g c = λ (a : Archive) s.
    let t = c.in_ok-record.ensures.tells a s in
    let n = c.args.number in
    let r = record_of c.in_ok-record.record in
    let free = free_if (λ h. h.number == n) a.holds (omega (arith, c.count.ensures, t.0.held n, c.if-count-gt0.false)) in (
      t.0,
      λ clean. (
        record { found = t.1 clean; live = c.if-record.false; free = free },
        may_go a n c.args.day r (t.1 clean) c.if-record.false free (subst (λ p. against_destruction p c.args.day r
            ≡ None) t.0.plan c.in-Ok.ensures.ok),
      ),
    )

pub returns-in-Err-clause-behaves : goal.returns-in-Err-clause-behaves
returns-in-Err-clause-behaves g c = record {
  falls = search rules;
  cause = λ (a : Archive) s clean.
      let sound = record_is_sound a c.args.number (record_of c.in_ok-record.record) s.archive ((c.in_ok-record.ensures.tells a s).1 clean) in
      not_own-trouble c.in-Err.fault (λ told. let late = c.in-Err.ensures.lost told in omega (arith, late, sound.day));
  «open» = search rules;
}
