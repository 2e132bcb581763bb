use Rattle.std.proofs.Common.{ℕ, List, subst}
use Rattle.sqlite.specs.Held.{Held, state}
use Rattle.sqlite.specs.State.{HasCleanDisk}
use Rattle.record_archive.specs.Archive.{Archive}
use Rattle.cli_tasks.proofs.imports.LookForCapturedWork.work.Goals as goal

pub returns-in-Ok : goal.returns-in-Ok
returns-in-Ok g c = λ clean (a : Archive) (ls : List (List ℕ)) stands keeps.
    c.in-Ok.ensures.captured (subst (λ (h : Held g.row.S.Denot). HasCleanDisk (state g.S.Store h)) c.into_connection.ensures clean) a ls stands keeps
