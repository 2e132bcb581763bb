use Rattle.std.proofs.Common.{◌∙◌, sym, ap, rules}
use Rattle.record_judge.specs.Sealed.{archive_view, record_view}
use Rattle.record_judge.proofs.DeedLemmas.{may_go}
use Rattle.record_judge.proofs.sealed.SealedArchive.judge_destruction.Goals as goal

pub returns-clause-ok : goal.returns-clause-ok
returns-clause-ok c = λ kept.
    let at = c.record_at.ensures kept in
    may_go (archive_view c.args.self.now) c.args.number c.args.day (record_view c.in-Some.record.now) (search rules) (search rules) (search rules)
    (search rules) (search rules)
