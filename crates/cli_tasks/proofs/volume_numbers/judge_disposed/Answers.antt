use Rattle.std.proofs.Common.{◌∙◌, sym}
use Rattle.std.proofs.lemmas.Result.{on_ok_weaker}
use Rattle.cli_tasks.proofs.volume_numbers.judge_disposed.Goals as goal

pub returns-clause-none : goal.returns-clause-none
returns-clause-none c = on_ok_weaker c.judge_typed.result (λ none. sym c.as_slice.ensures.value ∙ none) c.judge_typed.ensures.none
