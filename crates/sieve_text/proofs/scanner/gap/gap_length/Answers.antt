use Rattle.std.proofs.Common.{◌≡◌, ◌+◌, ◌<◌, ◌≤◌, length, drop, arith}
use Rattle.std.proofs.lemmas.List.{drop_all}
use Rattle.sieve_text.specs.Gaps.{comment_len}
use Rattle.sieve_text.proofs.GapLemmas.{drop_more, gap_last, gap_piece, gap_nothing}
use Rattle.sieve_text.proofs.scanner.gap.gap_length.Goals as goal

pub returns-then-comment-eq0-clause-value : goal.returns-then-comment-eq0-clause-value
returns-then-comment-eq0-clause-value c =
    let none : comment_len (drop c.white_length-white.result c.split_at.result.1.now) ≡ 0 = cc in
    let last = gap_last c.split_at.result.1.now c.white_length-white.result c.white_length-white.ensures.value none in
    let whole = rw (← c.split_at.ensures.back) at c.gap.invariant.0 in
    omega arith

pub gap-preserved : goal.gap-preserved
gap-preserved c =
    let some : 0 < c.comment_length-comment.result = omega arith in
    let is : c.comment_length-comment.result ≡ comment_len (drop c.white_length-white.result c.split_at.result.1.now) = cc in
    let within : c.comment_length-comment.result ≤ length (drop c.white_length-white.result c.split_at.result.1.now) =
    rw c.split_at-in-gap.ensures.back at c.comment_length-comment.ensures.within in
    let piece = gap_piece c.split_at.result.1.now c.white_length-white.result c.comment_length-comment.result
    c.white_length-white.ensures.value is some within in
    let whole = rw (← c.split_at.ensures.back) at c.gap.invariant.0 in
    let far = rw (← c.split_at.ensures.back) at
    (drop_more c.gap.at (c.white_length-white.result + c.comment_length-comment.result) c.args.rest.now) in
    (rw far (omega arith), omega arith)

pub returns-clause-value : goal.returns-clause-value
returns-clause-value c =
    let none = gap_nothing (drop c.gap.at c.args.rest.now) (drop_all c.gap.at c.args.rest.now c.gap-test.false) in
    omega (arith, c.gap.invariant.0)
