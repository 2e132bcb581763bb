use Rattle.std.proofs.Common.{refl, inl, inr}
use Rattle.sqlite.specs.WalFiles.{image_at}
use Rattle.record_store.specs.Layouts.{HasArchiveTablesOrNone}
use Rattle.record_files.proofs.OpeningLemmas.{finds_opened, holds_tables}
use Rattle.record_places.proofs.CallLemmas.{opens_after}
use Rattle.session_files.proofs.RefusalLemmas.{has_cause}
use Rattle.session_files.proofs.UnservedLemmas.{finds_still, keeps_left}
use Rattle.session_files.proofs.session.serve_file.Goals as goal

pub returns-in-Err-open_store-clause-refused : goal.returns-in-Err-open_store-clause-refused
returns-in-Err-open_store-clause-refused g c a held is =
    let it = c.in-Err-open_store in
    has_cause g.S.Start (λ host. refl) it.error it.left it.ensures.unopened it.ensures.cause a held

pub returns-in-Ok-serve_connection-clause-served : goal.returns-in-Ok-serve_connection-clause-served
returns-in-Ok-serve_connection-clause-served g c honest heard said a held =
    let it = c.in-Ok-serve_connection.ensures.served honest heard said in
    it.1 a (finds_opened c.in-Ok.conn (image_at g.S.Start) a (c.in-Ok.ensures.opened it.0) (c.in-Ok.ensures.found it.0) held)

pub returns-in-Ok-serve_connection-clause-done : goal.returns-in-Ok-serve_connection-clause-done
returns-in-Ok-serve_connection-clause-done g c honest a held =
    let it = c.in-Ok-serve_connection.ensures.done honest in
    it.1 a (finds_opened c.in-Ok.conn (image_at g.S.Start) a (c.in-Ok.ensures.opened it.0) (c.in-Ok.ensures.found it.0) held)

pub returns-in-Ok-serve_connection-clause-left : goal.returns-in-Ok-serve_connection-clause-left
returns-in-Ok-serve_connection-clause-left g c honest a held =
    let it = c.in-Ok-serve_connection.ensures.left honest in
    it.1 a (finds_opened c.in-Ok.conn (image_at g.S.Start) a (c.in-Ok.ensures.opened it.0) (c.in-Ok.ensures.found it.0) held)

pub returns-in-Ok-serve_connection-clause-shut : goal.returns-in-Ok-serve_connection-clause-shut
returns-in-Ok-serve_connection-clause-shut g c honest a held =
    let it = c.in-Ok-serve_connection.ensures.shut honest in
    it.1 a (finds_opened c.in-Ok.conn (image_at g.S.Start) a (c.in-Ok.ensures.opened it.0) (c.in-Ok.ensures.found it.0) held)

pub returns-in-Ok-serve_connection-clause-layout : goal.returns-in-Ok-serve_connection-clause-layout
returns-in-Ok-serve_connection-clause-layout g c honest =
    let early = (c.in-Ok-serve_connection.ensures.done honest).0 in
    holds_tables HasArchiveTablesOrNone c.in-Ok.conn (image_at g.S.Start) (c.in-Ok.ensures.opened early) (c.in-Ok.ensures.found early)
    c.in-Ok-serve_connection.ensures.layout

pub returns-in-Err-serve_connection-clause-refused : goal.returns-in-Err-serve_connection-clause-refused
returns-in-Err-serve_connection-clause-refused g c a held is honest =
    let it = c.in-Err-serve_connection.ensures.refused honest in
    it.1 a (finds_opened c.in-Ok.conn (image_at g.S.Start) a (c.in-Ok.ensures.opened it.0) (c.in-Ok.ensures.found it.0) held) is

pub returns-in-Err-open_store-clause-kept : goal.returns-in-Err-open_store-clause-kept
returns-in-Err-open_store-clause-kept g c a held =
    let it = c.in-Err-open_store in
    keeps_left g.S.Start (λ host. refl) it.error it.left it.ensures.cause a held

pub returns-in-Err-serve_connection-clause-kept : goal.returns-in-Err-serve_connection-clause-kept
returns-in-Err-serve_connection-clause-kept g c a held honest image may =
    let it = c.in-Err-serve_connection.ensures in
    let early = (it.refused honest).0 in
    let opened = c.in-Ok.ensures.opened early in
    let found = finds_opened c.in-Ok.conn (image_at g.S.Start) a opened (c.in-Ok.ensures.found early) held in
    finds_still c.in-Ok.conn image a (λ f. inl refl) opened found (it.kept honest a found image may)

pub returns-in-Ok-serve_connection-clause-opens : goal.returns-in-Ok-serve_connection-clause-opens
returns-in-Ok-serve_connection-clause-opens g c = opens_after g.F.FileSystem.made _ _ _ _ c.make_ready.ensures.calls c.open_store.ensures.made

pub returns-in-Err-clause-tries : goal.returns-in-Err-clause-tries
returns-in-Err-clause-tries g c done was =
    let it = c.make_ready.ensures.calls done was in
    (it.0, inl it.1, it.2)

pub returns-in-Err-open_store-clause-tries : goal.returns-in-Err-open_store-clause-tries
returns-in-Err-open_store-clause-tries g c done was =
    let it = opens_after g.F.FileSystem.made _ _ _ _ c.make_ready.ensures.calls c.open_store.ensures.made done was in
    (it.0, inr it.1, it.2)

pub returns-in-Err-serve_connection-clause-tries : goal.returns-in-Err-serve_connection-clause-tries
returns-in-Err-serve_connection-clause-tries g c done was =
    let it = opens_after g.F.FileSystem.made _ _ _ _ c.make_ready.ensures.calls c.open_store.ensures.made done was in
    (it.0, inr it.1, it.2)
