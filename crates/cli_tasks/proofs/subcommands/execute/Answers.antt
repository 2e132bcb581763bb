use Rattle.std.proofs.Common.{inl, inr}
use Rattle.std.proofs.lemmas.Result.{on_ok_weaker}
use Rattle.cli_tasks.proofs.subcommands.execute.Goals as goal

pub returns-then-is_over : goal.returns-then-is_over
returns-then-is_over g c = on_ok_weaker c.execute_over.result (λ d. inr d) c.execute_over.ensures

pub returns : goal.returns
returns g c = on_ok_weaker c.execute_at.result (λ d. inl d) c.execute_at.ensures
