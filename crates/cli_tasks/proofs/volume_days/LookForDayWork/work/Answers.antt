use Rattle.std.proofs.Common.{subst}
use Rattle.sqlite.specs.Held.{Held, state}
use Rattle.sqlite.specs.State.{HasCleanDisk}
use Rattle.record_archive.specs.Archive.{Archive}
use Rattle.cli_tasks.proofs.volume_days.LookForDayWork.work.Goals as goal

pub returns-in-Ok : goal.returns-in-Ok
returns-in-Ok g c = record {
  asked = c.look.ensures.asked;
  last = λ clean (a : Archive) s.
      c.in-Ok.ensures.last (subst (λ (h : Held g.row.S.Denot). HasCleanDisk (state g.S.Store h)) c.into_connection.ensures clean) a s;
}
