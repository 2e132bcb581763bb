use Rattle.std.proofs.lemmas.Result.{on_ok_weaker}
use Rattle.cli_tasks.proofs.volume_changes.judge_name.Goals as goal

pub returns-in-Place : goal.returns-in-Place
returns-in-Place c = on_ok_weaker c.judge_forgotten.result (λ none placed. none) c.judge_forgotten.ensures.named
