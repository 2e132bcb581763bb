use Rattle.std.proofs.Common.{List, ℕ}
use Rattle.record_archive.specs.Archive.{Archive}
use Rattle.cli_tasks.proofs.volume_soundness.judge_events.Goals as goal

pub returns : goal.returns
returns g c = record {
  looks = c.are_reasons_required.ensures.looks;
  told = λ clean (a : Archive) (ls : List (List ℕ)) stands.
      let required = c.in_ok-are_reasons_required.ensures.required clean a ls stands in (required.events, required.tell);
}
