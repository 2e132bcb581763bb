use Rattle.std.proofs.Common.{◌≡◌, ◌∙◌, sym, ap, arith, rules, false}
use Rattle.std.proofs.lemmas.Bool.{not-true}
use Rattle.record_archive.specs.Archive.{Archive, Record, record_at}
use Rattle.record_choice.proofs.DestructionLaws.{found_has}
use Rattle.record_choice.proofs.Keepers.{alone, begins_low, finds_in}
use Rattle.record_choice.proofs.destruction.keeper_of.Goals as goal

pub returns-then-not-is_shared-clause-told : goal.returns-then-not-is_shared-clause-told
returns-then-not-is_shared-clause-told g c = λ clean (a : Archive) (r : Record) s at live same.
    let own = found_has c.args.number a.records r at in
    let no : c.is_shared.result ≡ false = search (rules, not-true) in
    alone a r c.args.message c.args.number same own (sym (c.is_shared.ensures a r s (ap (record_at a) own ∙ at) live same) ∙ no)

pub loop-init : goal.loop-init
loop-init g c = record {
  reads = record { stands = λ a s. s; falls = λ clean. clean };
  at = λ clean (a : Archive) s. (omega arith, omega arith);
  none = λ clean (a : Archive) s. begins_low a (g.met.R.Repository.is_archive c.args.records.now a s) c.args.message c.args.number;
}

pub loop-preserved : goal.loop-preserved
loop-preserved g c = record {
  reads = record {
    stands = λ (a : Archive) s. c.look_on.ensures.reads.stands a (c.loop.invariant.reads.stands a s);
    falls = λ clean. c.loop.invariant.reads.falls (c.look_on.ensures.reads.falls clean);
  };
  at = λ clean (a : Archive) s.
      let before = c.look_on.ensures.reads.falls clean in
      let at = c.loop.invariant.at before a s in
      let up =
      finds_in a c.args.message c.args.number c.loop.from c.in-Further.is (c.in_ok-found.ensures.told clean a (c.loop.invariant.reads.stands a s)) in
      (omega (arith, at.0, up.0), up.1);
  none = λ clean (a : Archive) s.
      let before = c.look_on.ensures.reads.falls clean in
      (finds_in a c.args.message c.args.number c.loop.from c.in-Further.is (c.in_ok-found.ensures.told clean a (c.loop.invariant.reads.stands a s))).2
      ∙ c.loop.invariant.none before a s;
}

pub returns-in-Ended-clause-told : goal.returns-in-Ended-clause-told
returns-in-Ended-clause-told g c = λ clean (a : Archive) (r : Record) s at live same.
    let before = c.look_on.ensures.reads.falls clean in
    sym (c.loop.invariant.none before a s)
    ∙ finds_in a c.args.message c.args.number c.loop.from c.in-Ended.is (c.in_ok-found.ensures.told clean a (c.loop.invariant.reads.stands a s))

pub returns-clause-told : goal.returns-clause-told
returns-clause-told g c = λ clean (a : Archive) (r : Record) s at live same.
    let high = c.loop.invariant.at clean a s in absurd (omega (arith, high.0, high.1))
