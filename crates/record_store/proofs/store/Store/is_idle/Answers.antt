use Rattle.std.proofs.Common.{◌≡◌, ◌∙◌, ap, sym, not, refl}
use Rattle.sqlite.specs.Held.{state}
use Rattle.record_archive.specs.Archive.{Archive}
use Rattle.record_store.proofs.store.Store.is_idle.Goals as goal

pub returns-clause-left : goal.returns-clause-left
returns-clause-left g c = λ clean is_open (a : Archive) s trees may.
    let conn = c.args.self.now.conn in
    let now = state g.S.Store conn in
    let settled : now.now ≡ now.committed = c.is_autocommit.ensures.settled (c.is_autocommit.ensures.value ∙ ap not s.idle) is_open in (
      record {
        db = now.now;
        same = g.met.S.Store.settled conn.store trees is_open may ∙ ap (λ db. db.trees) (sym settled);
        sound = (c.schema-live.ensures.live is_open).0;
        stored = s.rows clean is_open;
        archive = s.archive;
      },
      refl,
    )
