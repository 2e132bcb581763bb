use Rattle.std.proofs.Common.{◌∙◌, refl, sym}
use Rattle.record_judge.proofs.SealedLemmas.{kept_held}
use Rattle.record_judge.proofs.sealed.SealedArchive.find_hold.Goals as goal

pub returns-clause-kept : goal.returns-clause-kept
returns-clause-kept c =
    kept_held c.args.self.now (record c.args.self.now { holds = c.push.new.self; hold_index = c.note.new.self })
    (record { name = c.in_ok-name.name; number = c.args.number }) c.in_ok-key.key c.in_ok-push.ensures.items
    (c.in_ok-key.ensures.name ∙ sym c.in_ok-name.ensures.items) c.in_ok-key.ensures.number c.in_ok-note.ensures refl refl refl refl refl
