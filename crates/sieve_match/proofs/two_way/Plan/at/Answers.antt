use Rattle.std.proofs.Common.{length, sym, subst, refl}
use Rattle.std.proofs.lemmas.Bool.{false≢true}
use Rattle.memchr.specs.TwoWay.{IsCut}
use Rattle.memchr.specs.declared.arch.all.twoway.Shift.TheVariants.{Large}
use Rattle.memchr.proofs.lemmas.CriticalLemmas.{IsCut-wide, IsCut-long, IsCut-small}
use Rattle.sieve_match.specs.TwoWay.{folded_octet}
use Rattle.sieve_match.proofs.TwoWayLemmas.{IsPlan-small, IsPlan-large}
use Rattle.sieve_match.proofs.two_way.Plan.at.Goals.{else-cut-key-via-then-cut-key+else-repeats_before, else-cut-key-via-else-cut-key}
use Rattle.sieve_match.proofs.two_way.Plan.at.Goals as goal

pub returns-then-repeats_before : goal.returns-then-repeats_before
returns-then-repeats_before c =
    IsPlan-small _ _ _ c.rare_place-rare.ensures (IsCut-small _ _ _ _ c.requires (c.if-repeats_before.ensures.0 refl))
    refl

pub returns : goal.returns
returns c =
    let x = folded_octet c.args.key.now in
    let m = length c.args.key.now in
    IsPlan-large x m _ c.rare_place-rare.ensures (subst (λ s. IsCut x m c.args.cut (Large s)) (sym c.max.ensures) (elim c.else-cut-key.branch [
      | else-cut-key-via-then-cut-key+else-repeats_before w ↦ IsCut-long x m c.args.cut c.args.period c.requires (λ all.
          false≢true (w.if-repeats_before.ensures.1 all))
      | else-cut-key-via-else-cut-key w ↦ IsCut-wide x m c.args.cut c.args.period c.requires w.if-cut-key.false
    ])) refl
