use Rattle.std.proofs.Common.{◌≡◌, length, arith}
use Rattle.std.specs.List.{prefix_len}
use Rattle.sieve_text.specs.Octets.{is_plain}
use Rattle.sieve_text.proofs.PlainLemmas.{plain_value}
use Rattle.sieve_text.proofs.scanner.strings.quoted_text.Goals as goal

pub returns-then-plain_length-body : goal.returns-then-plain_length-body
returns-then-plain_length-body c =
    let all : prefix_len is_plain c.args.body.now ≡ length c.args.body.now =
    omega (arith, c.plain_length.ensures.value, c.if-plain_length-body.true) in
    rw (plain_value c.args.body.now all) c.from_slice.ensures
