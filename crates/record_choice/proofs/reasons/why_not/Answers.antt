use Rattle.std.proofs.Common.{◌≡◌, subst, None, MatchOption}
use Rattle.record_archive.specs.Archive.{Archive, record_at}
use Rattle.record_choice.specs.Entries.{OfRecord, entry_of, entry_view}
use Rattle.record_choice.proofs.DestructionLaws.{found_has}
use Rattle.record_choice.proofs.reasons.why_not.Goals as goal

pub returns-in-Some-clause-told : goal.returns-in-Some-clause-told
returns-in-Some-clause-told g c = λ clean (a : Archive) s.
    let n = c.args.number in
    let told = subst (λ o. MatchOption o (record_at a n ≡ None) (λ e. OfRecord a n (λ r. entry_view e ≡ entry_of a r))) c.in-Some.is
    (c.in_ok-found.ensures.told clean a s) in
    c.judge.ensures a n told.0 (c.plan.ensures a (c.find_entry.ensures.reads.stands a s)) told.1 (found_has n a.records told.0 told.1) told.2
