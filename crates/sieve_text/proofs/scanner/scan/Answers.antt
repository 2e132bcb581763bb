use Rattle.std.proofs.Common.{arith}
use Rattle.sieve_text.specs.Lexemes.{token_of}
use Rattle.sieve_text.proofs.ScanLemmas.{Reads_push}
use Rattle.sieve_text.proofs.scanner.scan.Goals as goal

pub loop-tokens-preserved : goal.loop-tokens-preserved
loop-tokens-preserved c =
    let pushed =
    Reads_push c.args.script.now 0 c.loop-tokens.tokens.items (token_of c.in-Some.next) c.loop-tokens.at
    c.loop-tokens.invariant.0 (rw c.in-Some.is at c.in_ok-next.ensures.value) in
    (rw (c.in_ok-push.ensures.items, c.in_ok-token.ensures) pushed, omega (arith, rw c.in-Some.is at c.in_ok-next.ensures.within))
