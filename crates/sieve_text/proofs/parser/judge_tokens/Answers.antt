use Rattle.std.proofs.Common.{arith}
use Rattle.std.proofs.lemmas.List.{nil_from_length}
use Rattle.sieve_text.specs.Lexemes.{left_in}
use Rattle.sieve_text.proofs.LexemeLemmas.{nothing_left}
use Rattle.sieve_text.proofs.parser.judge_tokens.Goals as goal

pub returns-then-left-eq0-clause-tokens : goal.returns-then-left-eq0-clause-tokens
returns-then-left-eq0-clause-tokens c =
    nothing_left c.args.script.now c.requires.sound (nil_from_length (left_in c.args.script.now) (omega (
      arith,
      rw c.in-Ok.is at c.requires.left,
      c.if-left-eq0.true,
    )))
