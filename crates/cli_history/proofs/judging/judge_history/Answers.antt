use Rattle.std.proofs.Common.{◌∙◌, ℕ, List, sym}
use Rattle.sqlite.specs.State.{HasCleanDisk}
use Rattle.sqlite.specs.Held.{state}
use Rattle.record_archive.specs.Archive.{Archive}
use Rattle.record_noted.specs.Histories.{StandsWith}
use Rattle.cli_history.specs.Judgements.{Passes}
use Rattle.cli_history.proofs.JudgementLemmas.{all_three, passes, when_ok}
use Rattle.cli_history.proofs.judging.judge_history.Goals as goal

pub returns-clause-passes : goal.returns-clause-passes
returns-clause-passes g c =
    let j = c.in_ok-judgement.judgement in
    when_ok (HasCleanDisk (state g.S.Store c.is_explained.new.noted.store.conn) → (a : Archive) → (ls : List (List ℕ))
    → StandsWith g.S.Store c.args.noted.now a ls → Passes c.args.head c.args.stored a ls) c.verdict.result
    (λ ok clean (a : Archive) (ls : List (List ℕ)) stands.
    let all = all_three c.in_ok-is_same.is_same c.in_ok-is_accepted.is_accepted c.is_met.result (sym c.verdict.ensures ∙ ok) in
    passes j c.args.head c.args.stored a ls
    (c.in_ok-judgement.ensures.judged (c.is_explained.ensures.looks.falls clean) a ls stands) c.in_ok-judgement.ensures.head
    (c.in_ok-is_same.ensures.sound all.0)
    (c.in_ok-is_same.ensures.made all.0 clean a ls (c.judge_events.ensures.looks.lines a ls stands)) (sym c.in_ok-is_accepted.ensures ∙ all.1)
    (sym c.is_met.ensures ∙ all.2))
