use Rattle.std.proofs.Common.{◌∷◌, ◌++◌, [], arith}
use Rattle.std.proofs.lemmas.List.{length_push}
use Rattle.sieve_text.specs.Lexemes.{token_of}
use Rattle.sieve_text.proofs.ScanLemmas.{Reads_push}
use Rattle.sieve_text.proofs.scanner.count_tokens.Goals as goal

pub loop-next-preserved : goal.loop-next-preserved
loop-next-preserved c =
    let ts = c.loop-next.invariant.0.0 in
    let t = token_of c.in-Some.next in
    let l = length_push ts t in
    let w = rw c.in-Some.is at c.in_ok-next.ensures.within in (
      (
        ts ++ t ∷ [],
        Reads_push c.args.script.now 0 ts t c.loop-next.at c.loop-next.invariant.0.1
            (rw c.in-Some.is at c.in_ok-next.ensures.value),
        omega (arith, c.loop-next.invariant.0.2),
      ),
      omega (arith, w),
      omega (arith, w, c.loop-next.invariant.2),
    )
