use Rattle.std.proofs.Common.{◌∙◌, ◌≡◌, ◌<◌, [], Ok, None, length, arith, refl}
use Rattle.std.proofs.lemmas.Result.{err_from_is_err_and}
use Rattle.sieve_text.specs.Lexemes.{kinds_in, left_in}
use Rattle.sieve_text.specs.Reading.{argument_at, arguments_at}
use Rattle.sieve_text.proofs.Many.{goes_on_first, goes_on_more, goes_on_ends, goes_on_fails}
use Rattle.sieve_text.proofs.parser.arguments.some_arguments.Goals as goal

argument_none : argument_at [] ≡ Ok None
unfolding argument_at
argument_none = refl

pub loop-arguments-init : goal.loop-arguments-init
unfolding arguments_at
loop-arguments-init c = (rw c.new-arguments.ensures.items (goes_on_first argument_at (kinds_in c.args.text.now)), omega arith, refl)

pub returns-in_err-next-clause-value : goal.returns-in_err-next-clause-value
returns-in_err-next-clause-value c =
    let p = err_from_is_err_and c.from_residual.result c.from_residual.ensures.1 in
    rw (p.1, p.2) (goes_on_fails c.in_err-next.field-0.0 argument_at c.loop-arguments.arguments.items
    (kinds_in c.loop-arguments.rest.now) (arguments_at (kinds_in c.args.text.now)) argument_none
    c.loop-arguments.invariant.0 c.in_err-next.ensures.value)

pub loop-arguments-preserved : goal.loop-arguments-preserved
loop-arguments-preserved c =
    let before = c.loop-arguments.rest.now in
    let after = c.in-Some.after.now in
    let e = rw c.in-Some.is at c.in_ok-next.ensures.value in
    let rest_left : left_in after ≡ left_in before = rw c.in-Some.is at c.in_ok-next.ensures.left in
    let l : length (kinds_in after) < length (kinds_in before) = rw c.in-Some.is at c.in_ok-next.ensures.fewer in (
      rw c.in_ok-push.ensures.ok (goes_on_more argument_at c.loop-arguments.arguments.items (kinds_in before)
          (kinds_in after) c.in-Some.next (arguments_at (kinds_in c.args.text.now)) c.loop-arguments.invariant.0 e l),
      omega (arith, c.loop-arguments.invariant.1),
      rest_left ∙ c.loop-arguments.invariant.2,
    )

pub returns-clause-value : goal.returns-clause-value
returns-clause-value c =
    rw c.in_ok-from_vec.ensures (goes_on_ends argument_at c.loop-arguments.arguments.items
    (kinds_in c.loop-arguments.rest.now) (arguments_at (kinds_in c.args.text.now)) c.loop-arguments.invariant.0
    (rw c.in_default.is at c.in_ok-next.ensures.value))
