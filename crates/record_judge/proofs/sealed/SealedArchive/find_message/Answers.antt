use Rattle.std.proofs.Common.{refl}
use Rattle.record_judge.proofs.SealedLemmas.{kept_messages}
use Rattle.record_judge.proofs.sealed.SealedArchive.find_message.Goals as goal

pub returns-clause-kept : goal.returns-clause-kept
returns-clause-kept c =
    kept_messages c.args.self.now (record c.args.self.now { messages = c.push.new.self; message_index = c.note.new.self })
    (record { number = c.args.number; seal = c.args.seal }) c.in_ok-push.ensures.items c.in_ok-note.ensures refl refl refl refl refl
