use Rattle.std.proofs.Common.{◌≡◌, ◌+◌, max, arith}
use Rattle.record_judge.proofs.SealedLemmas.{next_path}
use Rattle.record_judge.proofs.sealed.SealedArchive.push_records.Goals as goal

pub loop-place-preserved : goal.loop-place-preserved
loop-place-preserved c =
    let was = c.loop-place.invariant in
    let pushed = c.in_ok-find_record.ensures.pushed in
    record {
      next = grind (arith, pushed.next, was.next);
      kept = λ kept. c.in_ok-find_record.ensures.kept (was.kept kept);
      pushed = next_path c.args.first c.args.day c.loop-place.place _ c.args.paths.now _ c.in_ok-path.path.items c.args.self.now c.loop-place.self
          c.find_record.new.self (omega (arith, c.loop-place-test.true)) c.in_ok-path.ensures.items (omega arith) was.pushed pushed;
    }
