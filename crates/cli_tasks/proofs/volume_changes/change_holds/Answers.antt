use Rattle.std.proofs.Common.{◌∙◌}
use Rattle.cli_changes.proofs.SeriesLaws.{on_ok_both}
use Rattle.cli_tasks.proofs.VolumeLaws.{each_held, held_in_one}
use Rattle.cli_tasks.proofs.volume_changes.change_holds.Goals as goal

pub returns : goal.returns
returns g c =
    let store = g.A.Kept.Store in
    let IsAt = g.A.Archives.is_at c.args.archives.now in
    let folder = c.args.volumes.folder.now in
    let told = c.args.told.now in
    let change = c.args.change in
    let name = c.args.name.now in
    let typed = c.args.typed.now in
    let questions = c.in_ok-questions.questions in
    let tally = c.in_ok-tally.tally in
    let last = c.args.volumes.last in
    on_ok_both c.end_holds.result c.end_holds.ensures.held c.end_holds.ensures.accepted (λ seen well. record {
      named = c.in_ok-judge_name.ensures;
      none = c.in_ok-judge_numbers.ensures.none;
      within = c.in_ok-judge_numbers.ensures.within;
      questions = questions;
      asked = record { test = c.in_ok-questions.ensures.test; fields = c.in_ok-questions.ensures.fields };
      each = each_held store IsAt folder told change name questions typed last tally well c.in_ok-tally.ensures;
      held = held_in_one store IsAt folder told change name typed questions last tally c.in_ok-tally.ensures
          (λ ends none. c.in_ok-is_held.ensures (seen ends none) ends (c.is_any.ensures ∙ none));
    })
