use Rattle.std.proofs.Common.{rules}
use Rattle.record_judge.specs.Sealed.{archive_view, record_view}
use Rattle.record_judge.proofs.RefilingLemmas.{may_be_refiled}
use Rattle.record_judge.proofs.sealed.SealedArchive.judge_refiling.Goals as goal

pub returns-clause-ok : goal.returns-clause-ok
returns-clause-ok c = λ kept.
    let at = c.record_at.ensures kept in
    may_be_refiled (archive_view c.args.self.now) c.args.number c.args.path.now (record_view c.in-Some.record.now) (search rules) (search rules)
    (search rules)
