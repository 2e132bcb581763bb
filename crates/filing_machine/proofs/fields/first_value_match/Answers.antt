use Rattle.std.proofs.Common.{◌≡◌, ◌<◌, ℕ, Bool, Some, true, false, sym, ap, ◌∙◌, arith, length, get_or}
use Rattle.sieve_meaning.specs.Matching.{key_matches}
use Rattle.mail_case.specs.Fields.{field_at}
use Rattle.filing_machine.proofs.FindLemmas.{find_here, find_none_more}
use Rattle.filing_machine.proofs.fields.first_value_match.Goals as goal

pub returns-then-is_match : goal.returns-then-is_match
returns-then-is_match g c =
    let test : ℕ → Bool = λ n. key_matches c.args.match_type c.args.comparator c.args.key.now (field_at (g.C.Case.facts c.args.case.now) n).value in
    let lt : c.loop-index.index < length c.args.fields.now = omega (arith, c.loop-index-test.true, c.count-index-end.ensures) in
    let passes : test (get_or c.args.fields.now c.loop-index.index 0) ≡ true =
    ap test (sym c.at-field.ensures)
    ∙ ap (key_matches c.args.match_type c.args.comparator c.args.key.now) (sym c.value.ensures)
    ∙ sym c.is_match.ensures ∙ c.if-is_match.true in
    ap (λ n. Some n) c.at-field.ensures ∙ sym (find_here test c.args.fields.now c.loop-index.index 0 lt c.loop-index.invariant passes)

pub loop-index-preserved : goal.loop-index-preserved
loop-index-preserved g c =
    let test : ℕ → Bool = λ n. key_matches c.args.match_type c.args.comparator c.args.key.now (field_at (g.C.Case.facts c.args.case.now) n).value in
    let lt : c.loop-index.index < length c.args.fields.now = omega (arith, c.loop-index-test.true, c.count-index-end.ensures) in
    let fails : test (get_or c.args.fields.now c.loop-index.index 0) ≡ false =
    ap test (sym c.at-field.ensures)
    ∙ ap (key_matches c.args.match_type c.args.comparator c.args.key.now) (sym c.value.ensures)
    ∙ sym c.is_match.ensures ∙ c.if-is_match.false in
    find_none_more test c.args.fields.now c.loop-index.index 0 lt c.loop-index.invariant fails
