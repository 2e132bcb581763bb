use Rattle.std.proofs.Common.{None, Option, Some, subst}
use Rattle.std.proofs.lemmas.Result.{IfOk-weaker}
use Rattle.choice_words.specs.declared.choice.Choice.{Choice}
use Rattle.cli_changes.specs.declared.holds.HoldTally.{HoldTally}
use Rattle.cli_tasks.specs.Numbers.{IsChoiceTyped}
use Rattle.cli_tasks.specs.Volumes.{HoldsIn, HoldsTyped}
use Rattle.cli_tasks.proofs.volume_changes.hold_typed.Goals as goal

pub returns-in-Some : goal.returns-in-Some
returns-in-Some g c =
    let store = g.A.Kept.Store in
    let IsAt = g.A.Archives.is_at c.args.archives.now in
    let folder = c.args.volumes.folder.now in
    let told = c.args.told.now in
    let hold = c.args.hold in
    let typed = c.args.typed.now in
    let questions = c.args.questions.now in
    let volume = c.args.volume in
    let choice = c.in-Some.choice in
    let asked = c.in_ok-choice.ensures in
    let is : IsChoiceTyped typed volume (Some choice) = subst (λ (o : Option Choice). IsChoiceTyped typed volume o) c.in-Some.is
    (record { chosen = asked.chosen; numbers = asked.numbers }) in
    IfOk-weaker c.hold_in.result (λ (t : HoldTally). HoldsIn store IsAt folder told hold.change hold.name.now choice questions t volume)
    (λ (t : HoldTally). HoldsTyped store IsAt folder told hold.change hold.name.now typed questions t volume)
    (λ t held. (Some choice, is, held)) c.hold_in.ensures

pub returns-in-None : goal.returns-in-None
returns-in-None g c =
    let asked = c.in_ok-choice.ensures in
    let typed = c.args.typed.now in
    let volume = c.args.volume in (
      None,
      subst (λ (o : Option Choice). IsChoiceTyped typed volume o) c.in-None.is
          (record { chosen = asked.chosen; numbers = asked.numbers }),
      c.none.ensures,
    )
