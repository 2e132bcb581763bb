use Rattle.sieve_text.specs.Lexemes.{kinds_in}
use Rattle.sieve_text.proofs.Bare.{no_arguments}
use Rattle.sieve_text.proofs.parser.arguments.arguments.Goals as goal

pub returns-then-has_no_argument-clause-value : goal.returns-then-has_no_argument-clause-value
returns-then-has_no_argument-clause-value c =
    rw c.none.ensures (no_arguments (kinds_in c.args.text.now) (c.has_no_argument.ensures c.if-has_no_argument.true))
