use Rattle.std.proofs.Common.{None, Option, Some, refl, subst}
use Rattle.std.proofs.lemmas.Result.{IfOk-weaker}
use Rattle.choice_words.specs.declared.choice.Choice.{Choice}
use Rattle.cli_tasks.specs.Numbers.{IsChoiceTyped}
use Rattle.cli_tasks.specs.Readings.{GoesWell, ReadsIn, ReadsTyped}
use Rattle.cli_tasks.specs.declared.volume_readings.Reading.{Reading}
use Rattle.cli_tasks.proofs.volume_readings.read_typed.Goals as goal

pub returns-in-Some : goal.returns-in-Some
returns-in-Some g c =
    let store = g.A.Kept.Store in
    let IsAt = g.A.Archives.is_at c.args.archives.now in
    let folder = c.args.volumes.folder.now in
    let takes = g.R.VolumeReader.takes in
    let questions = c.args.questions.now in
    let typed = c.args.typed.now in
    let volume = c.args.volume in
    let old = c.args.reading in
    let choice = c.in-Some.choice in
    let asked = c.in_ok-choice.ensures in
    let is : IsChoiceTyped typed volume (Some choice) = subst (λ (o : Option Choice). IsChoiceTyped typed volume o) c.in-Some.is
    (record { chosen = asked.chosen; numbers = asked.numbers }) in
    IfOk-weaker c.read_in.result (λ (x : Reading g.row.R.Denot). GoesWell old x (ReadsIn store IsAt folder takes questions volume choice))
    (λ (x : Reading g.row.R.Denot). GoesWell old x (ReadsTyped store IsAt folder takes questions typed volume))
    (λ x goes none. let read = goes none in (read.0, (Some choice, is, read.1))) c.read_in.ensures

pub returns-in-None : goal.returns-in-None
returns-in-None g c = λ none.
    let asked = c.in_ok-choice.ensures in
    let typed = c.args.typed.now in
    let volume = c.args.volume in
    let is : IsChoiceTyped typed volume None = subst (λ (o : Option Choice). IsChoiceTyped typed volume o) c.in-None.is
    (record { chosen = asked.chosen; numbers = asked.numbers }) in
    (none, (None, is, refl))
