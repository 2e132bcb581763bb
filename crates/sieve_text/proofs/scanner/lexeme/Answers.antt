use Rattle.std.proofs.Common.{◌+◌, sym, ◌∙◌}
use Rattle.sieve_text.specs.Tokens.{text_len}
use Rattle.sieve_text.proofs.WithinLemmas.{no_text}
use Rattle.sieve_text.proofs.scanner.lexeme.Goals as goal

pub returns-then-is_ascii_digit-clause-place : goal.returns-then-is_ascii_digit-clause-place
returns-then-is_ascii_digit-clause-place c = c.token-then-is_ascii_digit.ensures.place (c.args.at + text_len c.args.rest.now)

pub returns-then-b-eq58-clause-place : goal.returns-then-b-eq58-clause-place
returns-then-b-eq58-clause-place c =
    rw (no_text c.args.at c.args.rest.now (sym c.begins.ensures.value ∙ c.if-begins.false))
    (c.tag.ensures.place c.args.at)

pub returns-then-b-eq34-clause-place : goal.returns-then-b-eq34-clause-place
returns-then-b-eq34-clause-place c = c.token-then-b-eq34.ensures.place (c.args.at + text_len c.args.rest.now)
