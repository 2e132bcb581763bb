use Rattle.sieve_text.proofs.NumberLemmas.{all_digits}
use Rattle.sieve_text.proofs.scanner.number.token.Goals as goal

pub decimal-requires : goal.decimal-requires
decimal-requires c = rw (c.split_at.ensures.front, c.digits_length-n.ensures.value) (all_digits c.args.rest.now)
