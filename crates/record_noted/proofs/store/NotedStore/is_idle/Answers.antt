use Rattle.std.proofs.Common.{sym, subst}
use Rattle.sqlite.specs.Effect.{Database}
use Rattle.record_tables.specs.Events.{StoresEvents}
use Rattle.record_archive.specs.Archive.{Archive}
use Rattle.record_noted.specs.Histories.{rows_of}
use Rattle.record_noted.proofs.store.NotedStore.is_idle.Goals as goal

pub returns-clause-left : goal.returns-clause-left
returns-clause-left g c = λ clean is_open (a : Archive) s trees may.
    let left = c.is_idle.ensures.left clean is_open a s.1.stands trees may in (
      s.0,
      record {
        kept = left.0;
        lines = subst (λ (db : Database). StoresEvents db (rows_of s.0)) (sym left.1) (s.1.lines clean is_open);
      },
      s.2,
    )
