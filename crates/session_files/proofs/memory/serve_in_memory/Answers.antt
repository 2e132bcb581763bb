use Rattle.std.proofs.Common.{refl, inr, subst, sym}
use Rattle.sqlite_trees.proofs.Doubt.{no_doubt}
use Rattle.record_archive.specs.Archive.{empty_archive}
use Rattle.record_tables.specs.Tables.{IsFree}
use Rattle.record_tables.proofs.Standing.{nothing_is_free}
use Rattle.session_files.proofs.memory.serve_in_memory.Goals as goal

pub returns-in-Ok-serve_over-clause-served : goal.returns-in-Ok-serve_over-clause-served
returns-in-Ok-serve_over-clause-served g c heard said =
    let free = subst IsFree (sym c.in-Ok.ensures.empty.2) nothing_is_free in
    let e = (c.in-Ok-serve_over.ensures.served (no_doubt _ refl) heard said).1 empty_archive (inr (free, refl)) in
    (e.to, e.reached)

pub returns-in-Ok-serve_over-clause-done : goal.returns-in-Ok-serve_over-clause-done
returns-in-Ok-serve_over-clause-done g c =
    let free = subst IsFree (sym c.in-Ok.ensures.empty.2) nothing_is_free in
    let e = (c.in-Ok-serve_over.ensures.done (no_doubt _ refl)).1 empty_archive (inr (free, refl)) in
    (e.to, e.reached)
