use Rattle.record_archive.specs.Archive.{Archive}
use Rattle.cli_tasks.proofs.DoneLemmas.{on_done}
use Rattle.cli_tasks.proofs.volume_disposals.JudgeDueLedgerWork.perform.Goals as goal

pub returns : goal.returns
returns g c = record {
  reads = c.judge_disposal.ensures.reads;
  may_begin = λ done clean (a : Archive) s. on_done c.judge_disposal.result done c.judge_disposal.ensures.may_begin clean a s;
}
