use Rattle.std.proofs.Common.{◌≡◌, ◌++◌, ◌∷◌, ◌∙◌, [], ℕ, List, sym, subst, true}
use Rattle.std.specs.Prelude.{is_some}
use Rattle.record_judge.specs.Judging.{Judges}
use Rattle.record_tables.specs.Events.{Event as Row}
use Rattle.cli_history.proofs.LawfulLemmas.{not_both, watched_more}
use Rattle.cli_history.proofs.watching.Watch.look_at.Goals as goal

pub returns-in_default-clause-judges : goal.returns-in_default-clause-judges
returns-in_default-clause-judges c = λ (ls : List (List ℕ)) judges sound.
    subst (λ (l : List ℕ). Judges c.take-taken.new.self (ls ++ l ∷ [])) c.as_slice.ensures.value (c.in_default.ensures ls judges).0

-- something stood against an event before
pub returns-then-is_some-clause-watches : goal.returns-then-is_some-clause-watches
returns-then-is_some-clause-watches c = λ (rows : List Row) watches sound.
    absurd (not_both c.args.self.now.fault (sym c.is_some.ensures ∙ c.if-is_some.true) sound)

-- nothing stands against this one
pub returns-in_default-clause-watches : goal.returns-in_default-clause-watches
returns-in_default-clause-watches c = λ (rows : List Row) watches.
    let was = c.args.self.now in
    watched_more c.args.row.now was (record was { judge = c.take-taken.new.self }) rows (λ sound. sound) (λ (ls : List (List ℕ)) judges.
    subst (λ (l : List ℕ). Judges c.take-taken.new.self (ls ++ l ∷ [])) c.as_slice.ensures.value (c.in_default.ensures ls judges).0) watches

-- something stands against it
pub returns-clause-watches : goal.returns-clause-watches
returns-clause-watches c = λ (rows : List Row) watches sound. absurd cc
