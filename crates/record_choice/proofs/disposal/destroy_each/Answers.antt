use Rattle.std.proofs.Common.{sym, ap, arith, take, get_or, subst, ◌+◌, ◌++◌, ◌∷◌, ◌∙◌, []}
use Rattle.std.proofs.lemmas.List.{take_more}
use Rattle.jiff.specs.Words.{epoch_day}
use Rattle.record_archive.specs.Archive.{Archive}
use Rattle.record_choice.specs.Disposals.{Destroys, HandsOver, IsKnown}
use Rattle.record_choice.proofs.DestructionLaws.{destroys_more, hands_more, destroys_weaker}
use Rattle.record_choice.proofs.disposal.destroy_each.Goals as goal

pub loop-number-preserved : goal.loop-number-preserved
loop-number-preserved g c =
    let so_far = c.loop-number.invariant.done in
    let step = c.in-Ok.ensures.done in
    let numbers = c.args.numbers.now in
    let i = c.loop-number.number-index in
    let R = g.R.Repository.stands in
    record {
      at = omega arith;
      takes = c.in-Ok.ensures.«open» c.in-None.is;
      falls = λ clean. c.loop-number.invariant.falls (c.destroy_one.ensures.falls clean);
      done = (
        so_far.0 ++ step.0 ∷ [],
        hands_more g.K.Registrar.takes c.args.registrar.now so_far.0 c.loop-number.registrar c.destroy_one.new.registrar step.0 so_far.1 step.1,
        λ clean (a : Archive) s.
            let Next = λ (b : Archive). R c.destroy_one.new.records b × IsKnown b c.in-Ok.step.known in
            subst (λ l. Destroys Next (epoch_day c.args.day) l (so_far.0 ++ step.0 ∷ []) a)
            (sym (take_more numbers i 0 c.loop-number-test.true))
            (destroys_more (λ b. R c.loop-number.records b × IsKnown b c.loop-number.known)
            (λ b. R c.destroy_one.new.records b × IsKnown b c.in-Ok.step.known) (epoch_day c.args.day) (take i numbers) so_far.0
            (get_or numbers i 0) step.0 a (λ (b : Archive) k. step.2 clean b k.0 k.1)
            (so_far.2 (c.destroy_one.ensures.falls clean) a s)),
      );
    }

pub returns-in-Err-clause-these : goal.returns-in-Err-clause-these
returns-in-Err-clause-these g c =
    let so_far = c.loop-number.invariant.done in
    let failed = c.in-Err.ensures.failed in
    let R = g.R.Repository.stands in (
      so_far.0,
      subst (HandsOver g.K.Registrar.takes c.args.registrar.now so_far.0) (sym failed.0) so_far.1,
      λ clean (a : Archive) s.
          destroys_weaker (λ b. R c.loop-number.records b × IsKnown b c.loop-number.known) (R c.destroy_one.new.records)
          (λ (b : Archive) k. failed.1 b k.0) (epoch_day c.args.day) (take c.loop-number.count c.args.numbers.now) so_far.0 a
          (subst (λ k. Destroys (λ b. R c.loop-number.records b × IsKnown b c.loop-number.known) (epoch_day c.args.day)
          (take k c.args.numbers.now) so_far.0 a) (sym c.loop-number.invariant.at) (so_far.2 (c.destroy_one.ensures.falls clean) a s)),
    )

pub returns-in-Some-clause-these : goal.returns-in-Some-clause-these
returns-in-Some-clause-these g c =
    let so_far = c.loop-number.invariant.done in
    let step = c.in-Ok.ensures.done in
    let numbers = c.args.numbers.now in
    let i = c.loop-number.number-index in
    let R = g.R.Repository.stands in (
      so_far.0 ++ step.0 ∷ [],
      hands_more g.K.Registrar.takes c.args.registrar.now so_far.0 c.loop-number.registrar c.destroy_one.new.registrar step.0 so_far.1 step.1,
      λ clean (a : Archive) s.
          subst (λ l. Destroys (R c.destroy_one.new.records) (epoch_day c.args.day) l (so_far.0 ++ step.0 ∷ []) a)
          (sym (ap (λ k. take (k + 1) numbers) c.loop-number.invariant.at ∙ take_more numbers i 0 c.loop-number-test.true))
          (destroys_weaker (λ b. R c.destroy_one.new.records b × IsKnown b c.in-Ok.step.known) (R c.destroy_one.new.records)
          (λ (b : Archive) k. k.0) (epoch_day c.args.day) (take i numbers ++ get_or numbers i 0 ∷ []) (so_far.0 ++ step.0 ∷ []) a
          (destroys_more (λ b. R c.loop-number.records b × IsKnown b c.loop-number.known)
          (λ b. R c.destroy_one.new.records b × IsKnown b c.in-Ok.step.known) (epoch_day c.args.day) (take i numbers) so_far.0
          (get_or numbers i 0) step.0 a (λ (b : Archive) k. step.2 clean b k.0 k.1)
          (so_far.2 (c.destroy_one.ensures.falls clean) a s))),
    )

pub returns-clause-these : goal.returns-clause-these
returns-clause-these g c =
    let so_far = c.loop-number.invariant.done in
    let R = g.R.Repository.stands in (
      so_far.0,
      so_far.1,
      λ clean (a : Archive) s.
          destroys_weaker (λ b. R c.loop-number.records b × IsKnown b c.loop-number.known) (R c.loop-number.records)
          (λ (b : Archive) k. k.0) (epoch_day c.args.day) (take c.loop-number.count c.args.numbers.now) so_far.0 a
          (subst (λ k. Destroys (λ b. R c.loop-number.records b × IsKnown b c.loop-number.known) (epoch_day c.args.day)
          (take k c.args.numbers.now) so_far.0 a) (sym c.loop-number.invariant.at) (so_far.2 clean a s)),
    )
