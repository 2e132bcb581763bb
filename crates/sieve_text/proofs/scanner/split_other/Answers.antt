use Rattle.std.proofs.Common.{sym, ◌≡◌, Ok, Err, drop, arith}
use Rattle.sieve_text.specs.Gaps.{gap_len}
use Rattle.sieve_text.specs.Lexemes.{read_of}
use Rattle.sieve_text.specs.Tokens.{kind_at}
use Rattle.sieve_text.proofs.LexemeLemmas.{first_in, none_in, left_first, left_none}
use Rattle.sieve_text.proofs.SkipLemmas.{kinds_after, left_after_gap}
use Rattle.sieve_text.proofs.scanner.split_other.Goals as goal

pub returns-in_default-clause-cases : goal.returns-in_default-clause-cases
returns-in_default-clause-cases c =
    let read : kind_at (drop (gap_len 0 c.args.text.now) c.args.text.now) ≡ Err c.in_default.field-0.refusal =
    rw (c.in_default.is, c.after_gap-rest.ensures) at c.lexeme.ensures.value in
    none_in c.args.text.now c.in_default.field-0.refusal read

pub returns-clause-cases : goal.returns-clause-cases
returns-clause-cases c =
    let read : kind_at (drop (gap_len 0 c.args.text.now) c.args.text.now)
    ≡ Ok (read_of (c.in-Ok.lexeme, c.in-Ok.length)) =
    rw (c.in-Ok.is, c.after_gap-rest.ensures) at c.lexeme.ensures.value in
    rw (
      c.after_gap.ensures,
      kinds_after c.split_at.result.1.now,
      c.split_at.ensures.back,
      c.after_gap-rest.ensures,
    ) (first_in c.args.text.now (read_of (c.in-Ok.lexeme, c.in-Ok.length)) read)

pub returns-clause-fewer : goal.returns-clause-fewer
returns-clause-fewer c = rw (returns-clause-cases c) (omega arith)

pub returns-in_default-clause-left : goal.returns-in_default-clause-left
returns-in_default-clause-left c =
    let read : kind_at (drop (gap_len 0 c.args.text.now) c.args.text.now) ≡ Err c.in_default.field-0.refusal =
    rw (c.in_default.is, c.after_gap-rest.ensures) at c.lexeme.ensures.value in
    left_none c.args.text.now c.in_default.field-0.refusal read

pub returns-clause-left : goal.returns-clause-left
returns-clause-left c =
    let read : kind_at (drop (gap_len 0 c.args.text.now) c.args.text.now)
    ≡ Ok (read_of (c.in-Ok.lexeme, c.in-Ok.length)) =
    rw (c.in-Ok.is, c.after_gap-rest.ensures) at c.lexeme.ensures.value in
    rw (
      c.after_gap.ensures,
      left_after_gap c.split_at.result.1.now,
      c.split_at.ensures.back,
      c.after_gap-rest.ensures,
    ) (sym (left_first c.args.text.now (read_of (c.in-Ok.lexeme, c.in-Ok.length)) read))
