use Rattle.std.proofs.Common.{◌+◌}
use Rattle.std.specs.List.{prefix_len}
use Rattle.sieve_text.specs.Octets.{is_blank}
use Rattle.sieve_text.proofs.scanner.multi_line.token.Goals as goal

pub returns-clause-place : goal.returns-clause-place
returns-clause-place c = c.lines_token.ensures.place (c.args.at + (5 + prefix_len is_blank c.args.following.now))
