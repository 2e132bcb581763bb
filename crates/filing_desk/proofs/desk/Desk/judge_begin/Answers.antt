use Rattle.std.proofs.Common.{◌≡◌, arith, false, true, length, refl}
use Rattle.std.proofs.lemmas.Grind.{common_steps}
use Rattle.filing_desk.proofs.BeginLemmas.{judged_allowed, judged_count, judged_length, judged_ticket}
use Rattle.filing_desk.proofs.ReasonLemmas.{refused_moment}
use Rattle.filing_desk.proofs.desk.Desk.judge_begin.Goals as goal

pub returns-in_default-clause-refused : goal.returns-in_default-clause-refused
returns-in_default-clause-refused g c = λ m is. (
  refused_moment (length c.args.self.now.flights) c.args.self.now.last c.args.moment (length m)
      c.in_default.ensures.date,
  refl,
)

pub returns-then-is_too_long-clause-refused : goal.returns-then-is_too_long-clause-refused
returns-then-is_too_long-clause-refused g c = λ m is.
    let held : c.is_too_long.result ≡ true = grind (arith, common_steps) in (
      judged_length (length c.args.self.now.flights) c.args.self.now.last c.args.moment (length m) c.is_too_long.result
          c.in-Some.ensures.date.0 (c.is_too_long.ensures.told m is) held,
      refl,
    )

pub returns-then-is_full-clause-refused : goal.returns-then-is_full-clause-refused
returns-then-is_full-clause-refused g c = λ m is.
    let off : c.is_too_long.result ≡ false = grind (arith, common_steps) in
    let held : c.is_full.result ≡ true = grind (arith, common_steps) in (
      judged_count (length c.args.self.now.flights) c.args.self.now.last c.args.moment (length m) c.is_too_long.result
          c.is_full.result c.in-Some.ensures.date.0 (c.is_too_long.ensures.told m is) off c.is_full.ensures.count held,
      refl,
    )

pub returns-then-self-clause-refused : goal.returns-then-self-clause-refused
returns-then-self-clause-refused g c = λ m is.
    let off : c.is_too_long.result ≡ false = grind (arith, common_steps) in
    let not_full : c.is_full.result ≡ false = grind (arith, common_steps) in (
      judged_ticket (length c.args.self.now.flights) c.args.self.now.last c.args.moment (length m) c.is_too_long.result
          c.is_full.result c.in-Some.ensures.date.0 (c.is_too_long.ensures.told m is) off c.is_full.ensures.count not_full
          (grind (arith, common_steps)),
      refl,
    )

pub returns-clause-allowed : goal.returns-clause-allowed
returns-clause-allowed g c = λ m is.
    let off : c.is_too_long.result ≡ false = grind (arith, common_steps) in
    let not_full : c.is_full.result ≡ false = grind (arith, common_steps) in
    judged_allowed (length c.args.self.now.flights) c.args.self.now.last c.args.moment (length m) c.is_too_long.result
    c.is_full.result c.in-Some.ensures.date.0 (c.is_too_long.ensures.told m is) off c.is_full.ensures.count not_full
    (grind (arith, common_steps))
