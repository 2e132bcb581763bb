use Rattle.std.proofs.Common.{ℕ, List, drop, length, sym, ap, ◌∙◌}
use Rattle.std.proofs.lemmas.List.{take_rest, nil_from_length}
use Rattle.sieve_match.proofs.PieceLemmas.{plain_within, plain_take, plain_starless, plain_last, plain_star}
use Rattle.sieve_match.proofs.pieces.next_piece.Goals as goal

pub returns-in_default : goal.returns-in_default
returns-in_default c =
    let p = c.args.pattern.now in
    let n = c.plain_length-count.result in
    let f = c.plain_length-count.ensures in
    record {
      within = plain_within p n f.within f.plain;
      starless = plain_starless p n f.within f.plain;
      ends = plain_last p n f.within f.plain (nil_from_length (drop n p)
          (ap (λ (xs : List ℕ). length xs) (sym (take_rest p n)) ∙ c.in_default.ensures.cases));
      plain = λ s. (f.within, plain_take p n f.within f.plain);
    }

pub returns-then-octet-eq42 : goal.returns-then-octet-eq42
returns-then-octet-eq42 c =
    let p = c.args.pattern.now in
    let n = c.plain_length-count.result in
    let f = c.plain_length-count.ensures in
    record {
      within = plain_within p n f.within f.plain;
      starless = plain_starless p n f.within f.plain;
      ends = plain_star p n f.within f.plain c.in-Some.field-0-0.now c.in-Some.after.now
          (sym (take_rest p n) ∙ c.in-Some.ensures.cases.0) c.if-octet-eq42.true;
      plain = λ s. (f.within, plain_take p n f.within f.plain);
    }
