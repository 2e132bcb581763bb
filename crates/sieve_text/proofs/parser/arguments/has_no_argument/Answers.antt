use Rattle.sieve_text.specs.Lexemes.{kinds_in}
use Rattle.sieve_text.proofs.Bare.{name_no_argument}
use Rattle.sieve_text.proofs.parser.arguments.has_no_argument.Goals as goal

pub returns-in-None : goal.returns-in-None
returns-in-None c = λ h.
    let first = c.begins_with_name.ensures h in
    name_no_argument (kinds_in c.args.text.now) first.1 first.0 first.2
