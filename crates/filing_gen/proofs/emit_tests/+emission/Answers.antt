use Rattle.std.proofs.Common.{◌≡◌, ℕ, [], ◌∷◌, List, refl, false, codes, inl, inr, arith, ap, map, subst, sym, ◌∙◌}
use Rattle.std.proofs.lemmas.Result.{on_ok_weaker}
use Rattle.std.proofs.Math.ListN.{drop_of_length-le}
use Rattle.sieve_syntax.specs.View.{test_of, inner_of}
use Rattle.sieve_syntax.proofs.Views.{inner_of-None, inner_of-One, inner_of-Listed}
use Rattle.sieve_syntax.specs.Tree.{InnerTests}
use Rattle.sieve_syntax.specs.declared.tree.Argument.{Argument}
use Rattle.sieve_meaning.specs.Words.{test_word}
use Rattle.sieve_meaning.specs.declared.words.TestWord.TheVariants as words
use Rattle.sieve_syntax.specs.declared.tree.Test.{Test}
use Rattle.sieve_syntax.specs.declared.tree.TestList.{TestList, out-TestList}
use Rattle.sieve_syntax.specs.declared.tree.Tests.{Tests}
use Rattle.sieve_meaning.specs.Reading.{test_in, tests_in, only_in, string_lists, exists_of, size_of, header_of}
use Rattle.sieve_meaning.specs.Reading.{has_tag, number_in, match_type, comparator_from}
use Rattle.filing_image.specs.declared.instruction.Operation.TheVariants.{Not}
use Rattle.filing_flow.specs.Structure.{Flow, action, Negate, Push}
use Rattle.filing_gen.specs.BlockCode.{test_flow, tests_flow}
use Rattle.filing_gen.specs.Ends.{no_place}
use Rattle.filing_gen.specs.Adds.{Emits}
use Rattle.filing_gen.proofs.Emitted.{Completes, leads_first, leads_last, emits_sequence, action_emitted, grows}
use Rattle.filing_gen.proofs.EmittedTests.{Unknown, emits_same, word_flow, row_flow, flow-listed, tests_turn, one_emitted, flow-one}
use Rattle.filing_gen.proofs.Types.{tests_typed}
use Rattle.filing_gen.proofs.emit_tests.+emission.Goals as goal

pub emit_not-returns : goal.emit_not-returns
emit_not-returns t c =
    record {
      adds = on_ok_weaker c.put.result (λ h ends.
          emits_sequence c.args.out.now c.emit_only.new.out c.put.new.out
          (test_flow (only_in (inner_of c.args.tests.now))) (action Negate) ends
          (c.in_ok-emit_only.ensures.adds ends) (action_emitted c.emit_only.new.out c.put.new.out Not Negate h refl
          ends)) c.put.ensures;
    }

pub emit_row-put_either-requires : goal.emit_row-put_either-requires
emit_row-put_either-requires t c =
    let q = grows c.args.out.now c.emit_tests.new.out (tests_flow c.args.stop (tests_in (inner_of c.args.tests.now)))
    (no_place ∷ []) (c.in_ok-emit_tests.ensures.adds (no_place ∷ []) refl) in
    record {
      start = omega (arith, q.code, c.len-start.ensures, c.args.out.now.code.ok.0);
      room =
          (omega (arith, c.requires, q.code), omega (arith, c.requires, q.texts), omega (arith, c.requires, q.numbers));
    }

pub emit_row-returns : goal.emit_row-returns
emit_row-returns t c =
    record {
      adds = on_ok_weaker c.put_either.result (λ h ends.
          h c.args.out.now (tests_flow c.args.stop (tests_in (inner_of c.args.tests.now))) ends (c.len-start.ensures
          ∙ c.args.out.now.code.ok.0) (λ around.
          tests_typed c.args.stop (tests_in (inner_of c.args.tests.now)) around) c.in_ok-emit_tests.ensures.adds)
          c.put_either.ensures;
    }

pub emit_tests-loop-test-init : goal.emit_tests-loop-test-init
emit_tests-loop-test-init t c =
    let list = out-TestList c.in-Listed.list.value in
    let items : List Test = list.first ∷ list.others.items in
    let whole : Flow = tests_flow c.args.stop (tests_in (inner_of c.args.tests.now)) in
    let e : whole ≡ row_flow c.args.stop (map test_of items) =
    rw (c.in-Listed.is, inner_of-Listed c.in-Listed.list)
    (flow-listed c.args.stop (test_of list.first) (map test_of list.others.items)) in
    let before = subst (λ (a : Flow). Completes c.args.out.now c.args.out.now a whole Unknown) e (leads_first c.args.out.now whole Unknown) in
    let first = λ (ends : List ℕ).
    subst (λ (l : TestList).
    Emits c.args.out.now c.emit_test-in-Listed.new.out (test_flow (test_in (test_of (out-TestList l).first))) ends)
    c.deref-in-Listed.ensures (c.in_ok-emit_test-in-Listed.ensures.adds ends) in
    rw (
      c.as_slice-test-items.ensures.value,
      c.deref-in-Listed-2.ensures,
    ) (tests_turn c.args.out.now c.args.out.now c.emit_test-in-Listed.new.out
    c.put_jump-in-Listed.new.out items 0 list.first (omega arith) refl whole c.args.stop before first
    c.in_ok-put_jump-in-Listed.ensures)

pub emit_tests-loop-test-preserved : goal.emit_tests-loop-test-preserved
emit_tests-loop-test-preserved t c =
    tests_turn c.args.out.now c.loop-test.out c.emit_test-in-loop-test.new.out c.put_jump-in-loop-test.new.out
    c.as_slice-test-items.result.now c.loop-test.test-index c.test-item.result c.loop-test-test.true c.test-item.is _
    c.args.stop c.loop-test.invariant c.in_ok-emit_test-in-Listed-2.ensures.adds c.in_ok-put_jump-in-Listed-2.ensures

pub emit_tests-returns-in_ok-emit_test-in-One : goal.emit_tests-returns-in_ok-emit_test-in-One
emit_tests-returns-in_ok-emit_test-in-One t c =
    let same = ap (λ (x : Tests). tests_flow c.args.stop (tests_in (inner_of x))) c.in-One.is ∙ flow-one c.in-One.test c.args.stop in
    record {
      adds = on_ok_weaker c.put_jump.result (λ h ends there. subst (λ (a : Flow). Emits c.args.out.now c.put_jump.new.out a ends) (sym same)
          (one_emitted c.args.out.now c.emit_test.new.out c.put_jump.new.out c.in-One.test.value c.args.stop
          (λ around. subst (λ (x : Test).
          Emits c.args.out.now c.emit_test.new.out (test_flow (test_in (test_of x))) around) c.deref.ensures
          (c.in_ok-emit_test-in-One.ensures.adds around)) h ends there)) c.put_jump.ensures;
    }

pub emit_tests-returns-after-loop-test : goal.emit_tests-returns-after-loop-test
emit_tests-returns-after-loop-test t c =
    record {
      adds = leads_last c.args.out.now c.loop-test.out _ _ Unknown c.loop-test.invariant (ap (λ (ys : List Test).
          row_flow c.args.stop (map test_of ys)) (drop_of_length-le c.as_slice-test-items.result.now c.loop-test-test.false));
    }

pub emit_test-returns-in-True : goal.emit_test-returns-in-True
emit_test-returns-in-True t c =
    record {
      adds = on_ok_weaker c.put_truth.result
          (emits_same c.args.out.now c.put_truth.new.out _ _
          (word_flow c.args.test.now words.True (ap (λ n. test_word n) (sym c.as_slice.ensures) ∙ sym c.test_word.ensures
          ∙ c.in-True.is))) c.put_truth.ensures.adds;
    }

pub emit_test-returns-in-False : goal.emit_test-returns-in-False
emit_test-returns-in-False t c =
    let named = ap (λ n. test_word n) (sym c.as_slice.ensures) ∙ sym c.test_word.ensures in
    let same : action (Push false) ≡ test_flow (test_in (test_of c.args.test.now)) =
    elim c.in-False.is [
      | inl e ↦ word_flow c.args.test.now words.False (named ∙ e)
      | inr e ↦ word_flow c.args.test.now words.Other (named ∙ e)
    ] in
    record {
      adds =
          on_ok_weaker c.put_truth-in-False.result (emits_same c.args.out.now c.put_truth-in-False.new.out _ _ same)
          c.put_truth-in-False.ensures.adds;
    }

pub emit_test-returns-in-Not : goal.emit_test-returns-in-Not
emit_test-returns-in-Not t c =
    record {
      adds = on_ok_weaker c.emit_not.result
          (emits_same c.args.out.now c.emit_not.new.out _ _
          (word_flow c.args.test.now words.Not (ap (λ n. test_word n) (sym c.as_slice.ensures) ∙ sym c.test_word.ensures
          ∙ c.in-Not.is))) c.emit_not.ensures.adds;
    }

pub emit_test-returns-in-AllOf : goal.emit_test-returns-in-AllOf
emit_test-returns-in-AllOf t c =
    record {
      adds = on_ok_weaker c.emit_row.result
          (emits_same c.args.out.now c.emit_row.new.out _ _
          (word_flow c.args.test.now words.AllOf (ap (λ n. test_word n) (sym c.as_slice.ensures) ∙ sym c.test_word.ensures
          ∙ c.in-AllOf.is))) c.emit_row.ensures.adds;
    }

pub emit_test-returns-in-AnyOf : goal.emit_test-returns-in-AnyOf
emit_test-returns-in-AnyOf t c =
    record {
      adds = on_ok_weaker c.emit_row-in-AnyOf.result (emits_same c.args.out.now c.emit_row-in-AnyOf.new.out _ _
          (word_flow c.args.test.now words.AnyOf (ap (λ n. test_word n) (sym c.as_slice.ensures) ∙ sym c.test_word.ensures
          ∙ c.in-AnyOf.is))) c.emit_row-in-AnyOf.ensures.adds;
    }

pub emit_test-returns-in-Exists : goal.emit_test-returns-in-Exists
emit_test-returns-in-Exists t c =
    let word = word_flow c.args.test.now words.Exists (ap (λ n. test_word n) (sym c.as_slice.ensures) ∙ sym c.test_word.ensures ∙ c.in-Exists.is) in
    let same : test_flow (exists_of (string_lists false c.as_slice-arguments.result.now))
    ≡ test_flow (test_in (test_of c.args.test.now)) =
    ap (λ (l : List Argument). test_flow (exists_of (string_lists false l))) c.as_slice-arguments.ensures ∙ word in
    record { adds = on_ok_weaker c.emit_exists.result (emits_same c.args.out.now c.emit_exists.new.out _ _ same) c.emit_exists.ensures.adds }

pub emit_test-returns-in-Size : goal.emit_test-returns-in-Size
emit_test-returns-in-Size t c =
    let word = word_flow c.args.test.now words.Size (ap (λ n. test_word n) (sym c.as_slice.ensures) ∙ sym c.test_word.ensures ∙ c.in-Size.is) in
    let same : test_flow (size_of (has_tag (codes "over") c.as_slice-arguments.result.now)
    (number_in c.as_slice-arguments.result.now)) ≡ test_flow (test_in (test_of c.args.test.now)) =
    ap (λ (l : List Argument). test_flow (size_of (has_tag (codes "over") l) (number_in l)))
    c.as_slice-arguments.ensures ∙ word in
    record { adds = on_ok_weaker c.emit_size.result (emits_same c.args.out.now c.emit_size.new.out _ _ same) c.emit_size.ensures.adds }

pub emit_test-returns-in-Header : goal.emit_test-returns-in-Header
emit_test-returns-in-Header t c =
    let word = word_flow c.args.test.now words.Header (ap (λ n. test_word n) (sym c.as_slice.ensures) ∙ sym c.test_word.ensures ∙ c.in-Header.is) in
    let same : test_flow (header_of (match_type c.as_slice-arguments.result.now)
    (comparator_from false c.as_slice-arguments.result.now) (string_lists false c.as_slice-arguments.result.now))
    ≡ test_flow (test_in (test_of c.args.test.now)) =
    ap (λ (l : List Argument). test_flow (header_of (match_type l) (comparator_from false l) (string_lists false l)))
    c.as_slice-arguments.ensures ∙ word in
    record { adds = on_ok_weaker c.emit_header.result (emits_same c.args.out.now c.emit_header.new.out _ _ same) c.emit_header.ensures.adds }

pub emit_only-returns-in-None : goal.emit_only-returns-in-None
emit_only-returns-in-None t c =
    let same : test_flow (only_in (inner_of c.args.tests.now)) ≡ action (Push false) =
    ap (λ (x : Tests). test_flow (only_in (inner_of x))) c.in-None.is
    ∙ ap (λ (i : InnerTests). test_flow (only_in i)) inner_of-None in
    record { adds = on_ok_weaker c.put_truth.result (emits_same c.args.out.now c.put_truth.new.out _ _ (sym same)) c.put_truth.ensures.adds }

pub emit_only-returns-in-One : goal.emit_only-returns-in-One
emit_only-returns-in-One t c =
    let same : test_flow (only_in (inner_of c.args.tests.now)) ≡ test_flow (test_in (test_of c.in-One.test.value)) =
    ap (λ (x : Tests). test_flow (only_in (inner_of x))) c.in-One.is
    ∙ ap (λ (i : InnerTests). test_flow (only_in i)) (inner_of-One c.in-One.test) in
    let known : test_flow (test_in (test_of c.deref.result.now)) ≡ test_flow (only_in (inner_of c.args.tests.now)) =
    ap (λ (x : Test). test_flow (test_in (test_of x))) c.deref.ensures ∙ sym same in
    record { adds = on_ok_weaker c.emit_test.result (emits_same c.args.out.now c.emit_test.new.out _ _ known) c.emit_test.ensures.adds }

pub emit_only-returns-in-Listed : goal.emit_only-returns-in-Listed
emit_only-returns-in-Listed t c =
    let same : test_flow (only_in (inner_of c.args.tests.now))
    ≡ test_flow (test_in (test_of (out-TestList c.in-Listed.list.value).first)) =
    ap (λ (x : Tests). test_flow (only_in (inner_of x))) c.in-Listed.is
    ∙ ap (λ (i : InnerTests). test_flow (only_in i)) (inner_of-Listed c.in-Listed.list) in
    let known : test_flow (test_in (test_of (out-TestList c.deref-in-Listed.result.now).first))
    ≡ test_flow (only_in (inner_of c.args.tests.now)) =
    ap (λ (l : TestList). test_flow (test_in (test_of (out-TestList l).first))) c.deref-in-Listed.ensures
    ∙ sym same in
    record {
      adds =
          on_ok_weaker c.emit_test-in-Listed.result (emits_same c.args.out.now c.emit_test-in-Listed.new.out _ _ known)
          c.emit_test-in-Listed.ensures.adds;
    }
