use Rattle.cli_tasks.proofs.HistoryLaws.{ok_itself}
use Rattle.cli_tasks.proofs.volume_beginnings.take.Goals as goal
