use Rattle.std.proofs.Common.{◌∙◌, ◌≡◌, ◌<◌, ◌∷◌, ◌++◌, [], length, map, refl, arith}
use Rattle.std.proofs.lemmas.Result.{err_from_is_err_and}
use Rattle.std.proofs.lemmas.List.{map_push}
use Rattle.sieve_syntax.specs.View.{command_of}
use Rattle.sieve_text.specs.Lexemes.{kinds_in, left_in}
use Rattle.sieve_text.specs.Reading.{many_at, command_with, inside_at}
use Rattle.sieve_text.proofs.Many.{goes_on_more, goes_on_ends, goes_on_fails}
use Rattle.sieve_text.proofs.parser.commands.+command_reader.Goals as goal

pub commands-returns-in_err-next-clause-value : goal.commands-returns-in_err-next-clause-value
commands-returns-in_err-next-clause-value t c =
    let p = err_from_is_err_and c.from_residual.result c.from_residual.ensures.1 in
    let ts = kinds_in c.args.text.now in
    let read = command_with 32 (inside_at 32 c.args.depth) in
    rw (p.1, p.2) (goes_on_fails c.in_err-next.field-0.0 read (map command_of c.loop-commands.commands.items)
    (kinds_in c.loop-commands.rest.now) (many_at read (length ts) ts) refl c.loop-commands.invariant.0
    c.in_err-next.ensures.value)

pub commands-loop-commands-preserved : goal.commands-loop-commands-preserved
commands-loop-commands-preserved t c =
    let before = c.loop-commands.rest.now in
    let after = c.in-Some.after.now in
    let ts = kinds_in c.args.text.now in
    let read = command_with 32 (inside_at 32 c.args.depth) in
    let e = rw c.in-Some.is at c.in_ok-next.ensures.value in
    let rest_left : left_in after ≡ left_in before = rw c.in-Some.is at c.in_ok-next.ensures.left in
    let l : length (kinds_in after) < length (kinds_in before) = rw c.in-Some.is at c.in_ok-next.ensures.fewer in
    let pushed : map command_of c.push.new.list.items ≡ map command_of c.loop-commands.commands.items
    ++ command_of c.in-Some.next ∷ [] =
    rw c.in_ok-push.ensures.ok (map_push _ c.loop-commands.commands.items c.in-Some.next) in (
      rw pushed (goes_on_more read (map command_of c.loop-commands.commands.items) (kinds_in before) (kinds_in after)
          (command_of c.in-Some.next) (many_at read (length ts) ts) c.loop-commands.invariant.0 e l),
      omega (arith, c.loop-commands.invariant.1),
      rest_left ∙ c.loop-commands.invariant.2,
    )

pub commands-returns-clause-value : goal.commands-returns-clause-value
commands-returns-clause-value t c =
    let ts = kinds_in c.args.text.now in
    let read = command_with 32 (inside_at 32 c.args.depth) in
    rw c.shrink_to_fit.ensures.items (goes_on_ends read (map command_of c.loop-commands.commands.items)
    (kinds_in c.loop-commands.rest.now) (many_at read (length ts) ts) c.loop-commands.invariant.0
    (rw c.in_default.is at c.in_ok-next.ensures.value))
