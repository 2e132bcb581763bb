use Rattle.std.proofs.Common.{refl}
use Rattle.sqlite.specs.WalFiles.{image_at}
use Rattle.record_store.specs.Layouts.{HasArchiveTables}
use Rattle.record_tables.specs.Tables.{IsApart}
use Rattle.record_files.proofs.OpeningLemmas.{finds_opened, holds_tables}
use Rattle.cli_files.proofs.CallLemmas.{one}
use Rattle.cli_files.proofs.opening.open_store.Goals as goal

pub returns-in-Ok-adopt_found-clause-stands : goal.returns-in-Ok-adopt_found-clause-stands
returns-in-Ok-adopt_found-clause-stands g c clean a held =
    let opened = c.in-Ok.ensures in
    let adopted = c.in-Ok-adopt_found.ensures in
    let early = adopted.clean clean in
    adopted.stands clean a (finds_opened c.in-Ok.conn (image_at g.S.Start) a (opened.opened early) (opened.found early) held)

pub returns-in-Ok-adopt_found-clause-layout : goal.returns-in-Ok-adopt_found-clause-layout
returns-in-Ok-adopt_found-clause-layout g c clean =
    let opened = c.in-Ok.ensures in
    let adopted = c.in-Ok-adopt_found.ensures in
    let early = adopted.clean clean in
    holds_tables HasArchiveTables c.in-Ok.conn (image_at g.S.Start) (opened.opened early) (opened.found early) adopted.layout

pub returns-in-Ok-adopt_found-clause-apart : goal.returns-in-Ok-adopt_found-clause-apart
returns-in-Ok-adopt_found-clause-apart g c clean =
    let opened = c.in-Ok.ensures in
    let adopted = c.in-Ok-adopt_found.ensures in
    let early = adopted.clean clean in
    holds_tables IsApart c.in-Ok.conn (image_at g.S.Start) (opened.opened early) (opened.found early) adopted.apart

pub returns-in-Err-clause-calls : goal.returns-in-Err-clause-calls
returns-in-Err-clause-calls g c = one g.F.FileSystem.made _ _ _ c.open_store.ensures.made

pub returns-in-Ok-adopt_found-clause-calls : goal.returns-in-Ok-adopt_found-clause-calls
returns-in-Ok-adopt_found-clause-calls g c = one g.F.FileSystem.made _ _ _ c.open_store.ensures.made

pub returns-in-Err-adopt_found-clause-calls : goal.returns-in-Err-adopt_found-clause-calls
returns-in-Err-adopt_found-clause-calls g c = one g.F.FileSystem.made _ _ _ c.open_store.ensures.made
