use Rattle.std.proofs.Common.{false, rules}
use Rattle.record_archive.specs.Archive.{Archive}
use Rattle.cli_readings.specs.Twice.{all_beside, next_beside, no_beside}
use Rattle.cli_readings.proofs.twice.add_others.Goals as goal

pub loop-other-init : goal.loop-other-init
loop-other-init g c = record {
  reads = search rules;
  added = λ clean (a : Archive) s. no_beside g.K.Sink.written a c.args.list.now c.args.beside.now false;
}

pub loop-other-preserved : goal.loop-other-preserved
loop-other-preserved g c = record {
  reads = search rules;
  added = λ clean (a : Archive) s.
      let before = c.add_record.ensures.reads.falls clean in
      let stands = c.loop-other.invariant.reads.stands a s in
      next_beside g.K.Sink.written a c.args.list.now c.loop-other.list c.add_record.new.list c.args.beside.now c.args.others.now
      c.loop-other.other-index _ c.loop-other-test.true (c.loop-other.invariant.added before a s)
      (c.in_ok-add_record.ensures.added clean a stands);
}

pub returns-clause-added : goal.returns-clause-added
returns-clause-added g c = λ clean (a : Archive) s.
    all_beside g.K.Sink.written a c.args.list.now c.loop-other.list c.args.beside.now c.args.others.now c.loop-other.other-index
    c.loop-other-test.false (c.loop-other.invariant.added clean a s)
