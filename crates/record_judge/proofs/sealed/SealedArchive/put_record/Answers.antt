use Rattle.std.proofs.Common.{refl, arith}
use Rattle.record_judge.proofs.SealedLemmas.{kept_pushed}
use Rattle.record_judge.proofs.sealed.SealedArchive.put_record.Goals as goal

pub returns-clause-kept : goal.returns-clause-kept
returns-clause-kept c =
    kept_pushed c.args.self.now (record c.args.self.now {
      records = c.push.new.self;
      record_index = c.note.new.self;
      next = c.max-self.result;
    }) c.args.row c.len.result c.in_ok-push.ensures.items (grind (arith, c.max-self.ensures, c.from-after.ensures))
    (omega (arith, c.len.ensures, c.args.self.now.records.ok.0)) c.in_ok-note.ensures refl refl refl refl
