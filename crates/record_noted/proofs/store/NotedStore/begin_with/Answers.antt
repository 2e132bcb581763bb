use Rattle.std.proofs.Common.{map}
use Rattle.record_archive.specs.Archive.{Archive}
use Rattle.record_noted.proofs.store.NotedStore.begin_with.Goals as goal

pub returns-in-Ok-clause-ok : goal.returns-in-Ok-clause-ok
returns-in-Ok-clause-ok g c = λ (a : Archive) s.
    let laid = c.in-Ok.ensures.ok a s in
    record { stands = laid.stands; next = laid.next_is; mark = laid.mark_is; lines = λ clean is_open. laid.lines clean }

pub returns-in-Ok-clause-told : goal.returns-in-Ok-clause-told
returns-in-Ok-clause-told g c = λ (a : Archive) s told.
    let laid = c.in-Ok.ensures.ok a s in (
      map (λ l. l.items) c.args.lines.now,
      record { stands = laid.stands; next = laid.next_is; mark = laid.mark_is; lines = λ clean is_open. laid.lines clean },
      told,
    )
