use Rattle.std.proofs.Common.{sym, arith}
use Rattle.sieve_text.proofs.MarkLemmas.{mark_in, mark_left}
use Rattle.sieve_text.proofs.SkipLemmas.{kinds_after, left_after_gap}
use Rattle.sieve_text.proofs.scanner.split_lexeme.Goals as goal

pub returns-in-Some-clause-cases : goal.returns-in-Some-clause-cases
returns-in-Some-clause-cases c =
    let h = rw c.in-Some.is at c.split_mark.ensures in
    rw (h.1, c.after_gap.ensures, kinds_after c.in-Some.following.now) (mark_in h.0 c.in-Some.following.now c.in-Some.mark h.2)

pub returns-in-Some-clause-fewer : goal.returns-in-Some-clause-fewer
returns-in-Some-clause-fewer c = rw (returns-in-Some-clause-cases c) (omega arith)

pub returns-in-Some-clause-left : goal.returns-in-Some-clause-left
returns-in-Some-clause-left c =
    let h = rw c.in-Some.is at c.split_mark.ensures in
    rw (h.1, c.after_gap.ensures, left_after_gap c.in-Some.following.now) (sym (mark_left h.0 c.in-Some.following.now c.in-Some.mark h.2))
