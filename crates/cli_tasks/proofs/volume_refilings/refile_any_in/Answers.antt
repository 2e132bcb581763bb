use Rattle.std.proofs.Common.{◌==◌, ◌∙◌, List, None, Option, Some, ap, length, subst, sym, ℕ}
use Rattle.std.proofs.lemmas.Result.{on_ok_weaker}
use Rattle.choice_words.specs.declared.choice.Choice.{Choice}
use Rattle.cli_tasks.specs.Numbers.{IsChoiceTyped}
use Rattle.cli_tasks.specs.Refiles.{RefilesTyped}
use Rattle.cli_tasks.proofs.ReleaseLaws.{none_in}
use Rattle.cli_tasks.proofs.volume_refilings.refile_any_in.Goals as goal

pub returns-then-is_empty : goal.returns-then-is_empty
returns-then-is_empty g c = λ some.
    none_in (length c.args.listed.now.numbers.items == 0)
    (ap (λ (ns : List ℕ). length ns == 0) (sym c.as_slice-numbers.ensures.value) ∙ sym c.is_empty.ensures ∙ c.if-is_empty.true) some

pub returns-in-Some : goal.returns-in-Some
returns-in-Some g c =
    let asked = c.args.asked in
    let listed = c.args.listed.now in
    let choice = c.in-Some.choice in
    let one = c.in_ok-choice.ensures in
    let is : IsChoiceTyped asked.typed.now listed.volume (Some choice) =
    subst (λ (o : Option Choice). IsChoiceTyped asked.typed.now listed.volume o) c.in-Some.is
    (record { chosen = one.chosen; numbers = one.numbers }) in
    on_ok_weaker c.refile_in.result (λ done some.
    subst (λ (ns : List ℕ). RefilesTyped g.A.Kept.Store (g.A.Archives.is_at c.args.archives.now) c.args.volumes.folder.now c.args.told.now
    asked.to.now asked.typed.now asked.questions.now listed.volume ns) c.as_slice-numbers.ensures.value (Some choice, is, done))
    c.refile_in.ensures

pub returns-in-None : goal.returns-in-None
returns-in-None g c = λ some.
    let one = c.in_ok-choice.ensures in (
      None,
      subst (λ (o : Option Choice). IsChoiceTyped c.args.asked.typed.now c.args.listed.now.volume o) c.in-None.is
          (record { chosen = one.chosen; numbers = one.numbers }),
      tt,
    )
