use Rattle.std.proofs.Common.{◌∷◌, [], subst, true}
use Rattle.record_archive.specs.Archive.{Archive}
use Rattle.cli_readings.specs.Twice.{AddsBeside, more_beside}
use Rattle.cli_readings.proofs.twice.add_records.Goals as goal

pub returns-clause-added : goal.returns-clause-added
returns-clause-added g c = λ clean (a : Archive) s.
    let written = g.K.Sink.written in
    let between = c.add_others.ensures.reads.falls clean in
    let stands = c.add_record.ensures.reads.stands a s in
    let first = subst (λ r. AddsBeside written c.args.beside.now true c.args.list.now a (r ∷ []) c.add_record.new.list) c.first.ensures
    (c.in_ok-add_record.ensures.added between a s) in
    subst (λ rs. AddsBeside written c.args.beside.now true c.args.list.now a (c.args.group.now.first ∷ rs) c.add_others.new.list) c.others.ensures
    (more_beside written a c.args.list.now c.add_record.new.list c.add_others.new.list c.args.beside.now true (c.args.group.now.first ∷ [])
    c.others.result.now first (c.in_ok-add_others.ensures.added clean a stands))
