use Rattle.std.proofs.Common.{◌∙◌, sym, true≢false}
use Rattle.std.proofs.lemmas.Result.{on_ok_weaker}
use Rattle.cli_tasks.proofs.volume_disposals.judge_before.Goals as goal

pub returns-then-typed : goal.returns-then-typed
returns-then-typed g c = on_ok_weaker c.judge_all.result (λ judged yes. judged) c.judge_all.ensures

pub returns-else-typed : goal.returns-else-typed
returns-else-typed g c = λ yes. absurd (true≢false (sym yes ∙ c.if-typed.false))
