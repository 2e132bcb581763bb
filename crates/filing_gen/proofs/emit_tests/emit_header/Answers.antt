use Rattle.std.proofs.Common.{◌≡◌, ℕ, List, ◌∷◌, false, sym, ap, ◌∙◌}
use Rattle.std.proofs.lemmas.Result.{on_ok_weaker}
use Rattle.sieve_syntax.specs.Arguments.{first_of, others_of}
use Rattle.sieve_syntax.specs.declared.tree.StringList.{StringList}
use Rattle.sieve_meaning.specs.Reading.{header_of, match_type, comparator_from}
use Rattle.filing_gen.specs.Names.{others_once}
use Rattle.filing_table.specs.Comparison.{comparison}
use Rattle.filing_gen.specs.BlockCode.{header_flow, test_flow}
use Rattle.filing_gen.proofs.EmittedTests.{emits_same, header_same}
use Rattle.filing_gen.proofs.emit_tests.emit_header.Goals as goal

pub returns-in_default : goal.returns-in_default
returns-in_default c =
    record {
      adds =
          on_ok_weaker c.put_truth.result
          (emits_same c.args.out.now c.put_truth.new.out _ _
          (sym (ap (λ (l : List StringList).
          test_flow (header_of (match_type c.args.arguments.now) (comparator_from false c.args.arguments.now) l))
          c.in_default.ensures))) c.put_truth.ensures.adds;
    }

pub returns-in_default-next_string_list : goal.returns-in_default-next_string_list
returns-in_default-next_string_list c =
    let lists = c.in-Some.ensures ∙ ap (λ (l : List StringList). c.in-Some.names.now ∷ l) c.in_default-next_string_list.ensures in
    record {
      adds = on_ok_weaker c.put_truth-in_default-next_string_list.result
          (emits_same c.args.out.now c.put_truth-in_default-next_string_list.new.out _ _
          (sym (ap (λ (l : List StringList).
          test_flow (header_of (match_type c.args.arguments.now) (comparator_from false c.args.arguments.now) l))
          lists))) c.put_truth-in_default-next_string_list.ensures.adds;
    }

pub returns : goal.returns
returns c =
    let n = first_of c.in-Some.names.now in
    let ns = others_once n (others_of c.in-Some.names.now) in
    let k = first_of c.in-Some-next_string_list.keys.now in
    let ks = others_of c.in-Some-next_string_list.keys.now in
    let how : c.comparison_number-how.result
    ≡ comparison (match_type c.args.arguments.now) (comparator_from false c.args.arguments.now) =
    c.comparison_number-how.ensures ∙ ap (λ m. comparison m c.comparator.result) c.match_type.ensures
    ∙ ap (λ o. comparison (match_type c.args.arguments.now) o) c.comparator.ensures in
    let same = ap (λ (a : ℕ). header_flow a n ns k ks) how
    ∙ header_same c.args.arguments.now c.in-Some.rest.now (match_type c.args.arguments.now)
    (comparator_from false c.args.arguments.now) c.in-Some.names.now c.in-Some-next_string_list.keys.now _
    c.in-Some.ensures c.in-Some-next_string_list.ensures in
    record {
      adds =
          on_ok_weaker c.emit_some_match.result (emits_same c.args.out.now c.emit_some_match.new.out _ _ same)
          c.emit_some_match.ensures.adds;
    }
