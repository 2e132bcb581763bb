use Rattle.std.proofs.Common.{All, subst}
use Rattle.std.proofs.lemmas.Result.{on_ok_weaker}
use Rattle.cli_tasks.specs.Endings.{JudgesWhereAny}
use Rattle.cli_tasks.specs.Refiles.{MovesEach, RefilesWhereAny}
use Rattle.cli_tasks.proofs.volume_refilings.refile.Goals as goal

pub returns : goal.returns
returns g c =
    let store = g.A.Kept.Store in
    let IsAt = g.A.Archives.is_at c.args.archives.now in
    let folder = c.args.volumes.folder.now in
    let told = c.args.told.now in
    let typed = c.args.typed.now in
    let questions = c.in_ok-questions.questions in
    let last = c.args.volumes.last in
    let same = c.as_bytes.ensures.value in
    on_ok_weaker c.judge_refused.result (λ well. record {
      none = c.in_ok-judge_numbers.ensures.none;
      within = c.in_ok-judge_numbers.ensures.within;
      questions = questions;
      asked = record { test = c.in_ok-questions.ensures.test; fields = c.in_ok-questions.ensures.fields };
      planned = c.in_ok-judge_plans.ensures;
      tally = c.in_ok-tally.field-0.tally;
      accepted = well;
      listed = c.in_ok-tally.field-0.listed.items;
      shown = subst (λ to. MovesEach store IsAt folder to typed questions last c.in_ok-tally.field-0.tally
          c.in_ok-tally.field-0.listed.items) same c.in_ok-tally.ensures;
      judged = subst (λ ls. All (JudgesWhereAny store IsAt folder told) ls) c.as_slice-listed.ensures.value c.in_ok-judge_endings.ensures;
      refiled = subst (λ to. All (RefilesWhereAny store IsAt folder told to typed questions) c.in_ok-tally.field-0.listed.items) same
          (subst (λ ls. All (RefilesWhereAny store IsAt folder told c.as_bytes.result.now typed questions) ls) c.as_slice-listed.ensures.value
          c.in_ok-refile_each.ensures);
    }) c.judge_refused.ensures
