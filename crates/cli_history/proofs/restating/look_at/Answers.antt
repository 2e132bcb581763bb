use Rattle.std.proofs.Common.{ℕ, List, subst, sym}
use Rattle.record_archive.specs.Archive.{Archive}
use Rattle.record_judge.specs.declared.sealed.SealedArchive.{SealedArchive}
use Rattle.cli_history.specs.Made.{IsMadeBy}
use Rattle.cli_history.proofs.OpeningLemmas.{is_sight}
use Rattle.cli_history.proofs.restating.look_at.Goals as goal

pub returns-clause-sight : goal.returns-clause-sight
returns-clause-sight g c =
    is_sight g.S.Store c.args.purpose c.args.author.now c.args.noted.now c.of.new.noted c.changes_apart.new.noted
    (record { replayed = c.in_ok-replayed.replayed; changes = c.in_ok-changes.changes }) (sym c.in_ok-named.ensures.known)
    c.in_ok-judge_reason.ensures.lacks c.of.ensures.looks c.in_ok-replayed.ensures.replays c.in_ok-changes.ensures.looks
    (λ same clean (a : Archive) (ls : List (List ℕ)) stands.
    subst (λ (made : SealedArchive). IsMadeBy made a) c.archive.ensures (c.in_ok-changes.ensures.made same clean a ls stands))
