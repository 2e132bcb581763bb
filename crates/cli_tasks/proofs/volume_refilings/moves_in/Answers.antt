use Rattle.std.proofs.Common.{None, Option, Some, subst}
use Rattle.std.proofs.lemmas.Result.{IfOk-weaker}
use Rattle.choice_words.specs.declared.choice.Choice.{Choice}
use Rattle.cli_tasks.specs.Numbers.{IsChoiceTyped}
use Rattle.cli_tasks.specs.Refiles.{MovesBy, MovesIn}
use Rattle.cli_tasks.specs.declared.volume_refilings.Moved.{Moved}
use Rattle.cli_tasks.proofs.volume_refilings.moves_in.Goals as goal

pub returns-in-Some : goal.returns-in-Some
returns-in-Some g c =
    let store = g.A.Kept.Store in
    let IsAt = g.A.Archives.is_at c.args.archives.now in
    let folder = c.args.volumes.folder.now in
    let asked = c.args.asked in
    let volume = c.args.volume in
    let choice = c.in-Some.choice in
    let one = c.in_ok-choice.ensures in
    let is : IsChoiceTyped asked.typed.now volume (Some choice) = subst (λ (o : Option Choice). IsChoiceTyped asked.typed.now volume o) c.in-Some.is
    (record { chosen = one.chosen; numbers = one.numbers }) in
    IfOk-weaker c.lend.result (λ (m : Moved). MovesBy store IsAt folder asked.to.now asked.typed.now asked.questions.now volume m (Some choice))
    (λ (m : Moved). MovesIn store IsAt folder asked.to.now asked.typed.now asked.questions.now volume m)
    (λ m found. (Some choice, is, found)) c.lend.ensures

pub returns-in-None : goal.returns-in-None
returns-in-None g c =
    let one = c.in_ok-choice.ensures in
    let typed = c.args.asked.typed.now in
    let volume = c.args.volume in (
      None,
      subst (λ (o : Option Choice). IsChoiceTyped typed volume o) c.in-None.is (record { chosen = one.chosen; numbers = one.numbers }),
      (c.new.ensures.items, c.none.ensures),
    )
