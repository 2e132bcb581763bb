use Rattle.std.proofs.Common.{rules}
use Rattle.record_judge.specs.Sealed.{record_view}
use Rattle.record_judge.proofs.SealedLemmas.{released_from}
use Rattle.record_judge.proofs.sealed.SealedArchive.release.Goals as goal

pub returns-clause-done : goal.returns-clause-done
returns-clause-done c = λ kept.
    let at = c.record_at.ensures kept in
    let there = c.in_ok-is_held_by.ensures kept in
    released_from c.args.self.now c.remove_holds.new.rows.items c.in_ok-key.key c.args.name.now c.args.number
    (record_view c.in-Some.field-0.now) (search rules) (search rules) c.in_ok-key.ensures.name c.in_ok-key.ensures.number
    (c.remove_holds.ensures.rows kept.holds)
