use Rattle.std.proofs.Common.{map}
use Rattle.sqlite.specs.Effect.{Database}
use Rattle.sqlite.specs.Held.{state}
use Rattle.record_archive.specs.Archive.{Archive}
use Rattle.record_tables.specs.CodeRows.{IsMovedTo, due_of}
use Rattle.record_adoption.specs.Adoption.{FindsFirst, FindsWith, LeavesArchive}
use Rattle.record_adoption.specs.Keeping.{StoresArchive}
use Rattle.record_adoption.proofs.AdoptSettled.{stores_moved, tells_slices, leaves_made}
use Rattle.record_adoption.proofs.version.FirstVersion.renew.Given.{Over}
use Rattle.record_adoption.proofs.version.FirstVersion.renew.Goals.{After-move_first}
use Rattle.record_adoption.proofs.version.FirstVersion.renew.Goals as goal

-- the archive that is found before
abbrev IsFound : (g : Over) → After-move_first g → Archive → Type 0
IsFound g c = FindsWith FindsFirst c.args.plan.now (map due_of c.args.dues.now) (state g.S.Store c.args.conn.now).now

abbrev IsMovedHere : (g : Over) → After-move_first g → Database → Type 0
IsMovedHere g c = IsMovedTo c.as_slice.result.now c.as_slice-2.result.now c.args.dues.now (state g.S.Store c.args.conn.now).now

-- it is stored after the move
moved : (g : Over) (c : After-move_first g) (db : Database) → IsMovedHere g c db → (a : Archive) → IsFound g c a → StoresArchive db a
moved g c db made a is = stores_moved (tells_slices is.1 c.as_slice.ensures.value c.as_slice-2.ensures.value) is.2 is.0 made

-- a crash leaves it stored, or what was there
crash : (g : Over) (c : After-move_first g) → LeavesArchive g.S.Store c.args.conn.now c.move_first.new.conn (IsFound g c)
crash g c =
    leaves_made g.S.Store c.args.conn.now c.move_first.new.conn (IsFound g c) (IsMovedHere g c)
    (λ db made a is. (moved g c db made a is, λ was. made.sound is.0.tables is.0.stored is.0.keyed)) c.move_first.ensures.crash

pub returns-clause-ok : goal.returns-clause-ok
returns-clause-ok g c clean = moved g (goal.at.returns-clause-ok g c).After-move_first _ (c.in_ok-move_first.ensures.ok clean)

pub returns-clause-crash : goal.returns-clause-crash
returns-clause-crash g c = crash g (goal.at.returns-clause-crash g c).After-move_first

pub returns-in_err-move_first-clause-crash : goal.returns-in_err-move_first-clause-crash
returns-in_err-move_first-clause-crash g c = crash g (goal.at.returns-in_err-move_first-clause-crash g c).After-move_first
