use Rattle.std.proofs.Common.{◌≡◌, ◌==◌, ◌∙◌, List, ap, false, length, map, subst, sym, ℕ}
use Rattle.std.proofs.lemmas.List.{length-map}
use Rattle.std.proofs.lemmas.Result.{IfOk-weaker}
use Rattle.std.specs.Borrow.{Bor}
use Rattle.command_lines.specs.Numbers.{AreTyped}
use Rattle.command_lines.specs.declared.archives.numbers.Numbers.{Numbers}
use Rattle.cli_changes.specs.Approvals.{are_none, file_words}
use Rattle.cli_changes.proofs.ApprovalLaws.{some_typed}
use Rattle.cli_changes.proofs.approved.numbers_in.Goals as goal

pub returns-clause-any : goal.returns-clause-any
returns-clause-any c =
    let words = map (λ (w : Bor (List ℕ)). w.now) c.as_slice.result.now in
    let some : (length words == 0) ≡ false =
    ap (λ k. k == 0) (length-map c.as_slice.result.now (λ (w : Bor (List ℕ)). w.now) ∙ ap length c.as_slice.ensures.value
    ∙ sym c.in_ok-words.words.ok.0) ∙ sym c.is_empty.ensures ∙ c.if-is_empty.false in
    IfOk-weaker c.numbers_of.result (AreTyped words) (λ (n : Numbers). are_none n.alone.items n.of_volumes.items ≡ false)
    (λ n typed. some_typed words n some typed) c.numbers_of.ensures.numbers

pub returns-clause-numbers : goal.returns-clause-numbers
returns-clause-numbers c =
    let words = map (λ (w : Bor (List ℕ)). w.now) c.as_slice.result.now in
    IfOk-weaker c.numbers_of.result (AreTyped words) (AreTyped (file_words c.args.text.now))
    (λ n typed. subst (λ ws. AreTyped ws n) (ap (map (λ (w : Bor (List ℕ)). w.now)) c.as_slice.ensures.value ∙ c.in_ok-words.ensures) typed)
    c.numbers_of.ensures.numbers
