use Rattle.std.proofs.Common.{◌∙◌, ◌≡◌, ◌<◌, ◌∷◌, ◌++◌, [], length, map, refl, arith}
use Rattle.std.proofs.lemmas.Result.{err_from_is_err_and}
use Rattle.std.proofs.lemmas.List.{map_push}
use Rattle.sieve_syntax.specs.View.{test_of}
use Rattle.sieve_syntax.proofs.Views.{inner_of-None}
use Rattle.sieve_text.specs.Lexemes.{kinds_in, left_in}
use Rattle.sieve_text.specs.Reading.{next_with, many_at, test_at}
use Rattle.sieve_text.proofs.Many.{goes_on_first, goes_on_more, goes_on_ends, goes_on_fails}
use Rattle.sieve_text.proofs.parser.test_lists.+test_reader.Goals as goal

pub other_tests-loop-tests-init : goal.other_tests-loop-tests-init
other_tests-loop-tests-init t c = (
  rw c.new-tests.ensures.items (goes_on_first (next_with (test_at c.args.depth)) (kinds_in c.args.text.now)),
  omega arith,
  refl,
)

pub other_tests-returns-in_err-next-clause-value : goal.other_tests-returns-in_err-next-clause-value
other_tests-returns-in_err-next-clause-value t c =
    let p = err_from_is_err_and c.from_residual.result c.from_residual.ensures.1 in
    let ts = kinds_in c.args.text.now in
    rw (p.1, p.2) (goes_on_fails c.in_err-next.field-0.0 (next_with (test_at c.args.depth))
    (map test_of c.loop-tests.tests.items) (kinds_in c.loop-tests.rest.now)
    (many_at (next_with (test_at c.args.depth)) (length ts) ts) refl c.loop-tests.invariant.0
    c.in_err-next.ensures.value)

pub other_tests-loop-tests-preserved : goal.other_tests-loop-tests-preserved
other_tests-loop-tests-preserved t c =
    let before = c.loop-tests.rest.now in
    let after = c.in-Some.after.now in
    let ts = kinds_in c.args.text.now in
    let e = rw c.in-Some.is at c.in_ok-next.ensures.value in
    let rest_left : left_in after ≡ left_in before = rw c.in-Some.is at c.in_ok-next.ensures.left in
    let l : length (kinds_in after) < length (kinds_in before) = rw c.in-Some.is at c.in_ok-next.ensures.fewer in
    let pushed : map test_of c.push.new.list.items ≡ map test_of c.loop-tests.tests.items
    ++ test_of c.in-Some.next ∷ [] =
    rw c.in_ok-push.ensures.ok (map_push _ c.loop-tests.tests.items c.in-Some.next) in (
      rw pushed (goes_on_more (next_with (test_at c.args.depth)) (map test_of c.loop-tests.tests.items) (kinds_in before)
          (kinds_in after) (test_of c.in-Some.next) (many_at (next_with (test_at c.args.depth)) (length ts) ts)
          c.loop-tests.invariant.0 e l),
      omega (arith, c.loop-tests.invariant.1),
      rest_left ∙ c.loop-tests.invariant.2,
    )

pub other_tests-returns-clause-value : goal.other_tests-returns-clause-value
other_tests-returns-clause-value t c =
    let ts = kinds_in c.args.text.now in
    rw c.shrink_to_fit.ensures.items
    (goes_on_ends (next_with (test_at c.args.depth)) (map test_of c.loop-tests.tests.items)
    (kinds_in c.loop-tests.rest.now) (many_at (next_with (test_at c.args.depth)) (length ts) ts)
    c.loop-tests.invariant.0 (rw c.in_default.is at c.in_ok-next.ensures.value))

pub inner_tests-returns-then-has_no_test-clause-value : goal.inner_tests-returns-then-has_no_test-clause-value
inner_tests-returns-then-has_no_test-clause-value t c = rw inner_of-None (c.has_no_test.ensures c.if-has_no_test.true (test_at c.args.depth))
