use Rattle.std.proofs.Common.{◌≡◌, ◌+◌, ◌-◌, length, sym, subst, ◌∙◌, arith}
use Rattle.memchr.proofs.lemmas.SuffixLemmas.{IsScan, IsScan-start, IsScan-accept, IsScan-skip, IsScan-push, IsScan-block, IsScan-end}
use Rattle.sieve_match.specs.TwoWay.{folded_octet, Precedes}
use Rattle.sieve_match.proofs.TwoWayLemmas.{Precedes-trans, Precedes-irrefl}
use Rattle.sieve_match.proofs.two_way.greatest_suffix.Goals as goal

pub suffixes-init : goal.suffixes-init
suffixes-init c = IsScan-start (Precedes c.args.order) (Precedes-trans c.args.order) (Precedes-irrefl c.args.order) _ _ c.requires

pub suffixes-preserved-in-Less : goal.suffixes-preserved-in-Less
suffixes-preserved-in-Less c =
    let s = c.suffixes in
    let x = folded_octet c.args.key.now in
    IsScan-accept (Precedes c.args.order) (Precedes-trans c.args.order) (Precedes-irrefl c.args.order) x _ s.invariant c.suffixes-test.true
    (subst (λ v. Precedes c.args.order v (x (s.candidate + s.offset))) c.folded_at-best.ensures
    (subst (Precedes c.args.order c.folded_at-best.result) c.folded_at-other.ensures c.in-Less.ensures))

pub suffixes-preserved-in-Greater : goal.suffixes-preserved-in-Greater
suffixes-preserved-in-Greater c =
    let s = c.suffixes in
    let x = folded_octet c.args.key.now in
    let m = length c.args.key.now in
    let moved : s.candidate + s.offset + 1 ≡ s.candidate + (s.offset + 1) = omega arith in
    subst (λ k. IsScan (Precedes c.args.order) x m s.place (k - s.place) k 0) moved
    (IsScan-skip (Precedes c.args.order) (Precedes-trans c.args.order) (Precedes-irrefl c.args.order) x m s.invariant c.suffixes-test.true
    (subst (λ v. Precedes c.args.order v (x (s.place + s.offset))) c.folded_at-other.ensures
    (subst (Precedes c.args.order c.folded_at-other.result) c.folded_at-best.ensures c.in-Greater.ensures)))

pub suffixes-preserved-then-offset-period : goal.suffixes-preserved-then-offset-period
suffixes-preserved-then-offset-period c =
    let s = c.suffixes in
    let eq = sym c.folded_at-best.ensures ∙ c.in-Equal.ensures ∙ c.folded_at-other.ensures in
    IsScan-block (Precedes c.args.order) (Precedes-trans c.args.order) (Precedes-irrefl c.args.order) _ _ s.invariant
    c.suffixes-test.true eq c.if-offset-period.true

pub suffixes-preserved : goal.suffixes-preserved
suffixes-preserved c =
    let s = c.suffixes in
    let short = s.invariant.short in
    let differs = c.if-offset-period.false in
    let eq = sym c.folded_at-best.ensures ∙ c.in-Equal.ensures ∙ c.folded_at-other.ensures in
    IsScan-push (Precedes c.args.order) (Precedes-trans c.args.order) (Precedes-irrefl c.args.order) _ _ s.invariant
    c.suffixes-test.true eq (omega arith)

pub returns : goal.returns
returns c =
    let s = c.suffixes in
    let within = s.invariant.within in
    let ended = c.suffixes-test.false in
    IsScan-end (Precedes c.args.order) (Precedes-trans c.args.order) (Precedes-irrefl c.args.order) _ _ s.invariant (omega arith)
