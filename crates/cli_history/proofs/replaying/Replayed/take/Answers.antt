use Rattle.std.proofs.Common.{◌∙◌, ◌++◌, ◌∷◌, [], ℕ, List, ap, sym, subst}
use Rattle.record_history.specs.Views.{event_view}
use Rattle.record_judge.specs.Judging.{Judges}
use Rattle.record_judge.specs.declared.judge.Judge.{Judge}
use Rattle.cli_history.specs.declared.replaying.Replayed.{Replayed}
use Rattle.cli_history.proofs.ReplayLemmas.{replays_more}
use Rattle.cli_history.proofs.replaying.Replayed.take.Goals as goal

pub returns : goal.returns
returns c = λ purpose ls so_far.
    let taken = c.in_default.ensures ls so_far.judged in
    let rest = c.keep_seal.ensures.rest in
    let judge = ap (λ (r : Replayed). r.judge) rest in
    let line = ap (λ (l : List ℕ). ls ++ l ∷ []) c.as_slice.ensures.value in
    let judged = c.keep_seal.new.self.judge in
    let row = c.args.row.now in
    let told = subst (λ (j : Judge). Judges j (ls ++ c.as_slice.result.now ∷ [])) (sym judge) taken.0 in
    let judges = subst (λ (lines : List (List ℕ)). Judges judged lines) line told in
    replays_more purpose c.args.self.now c.keep_seal.new.self ls row.line.items row.number (event_view c.in_ok-event.event) so_far
    judges taken.1.0
    c.in_ok-event.ensures.told (ap (λ (r : Replayed). r.findings.stage) rest ∙ c.take.ensures)
    (ap (λ (r : Replayed). r.requires_reasons) rest ∙ c.requires_after-self.ensures) c.in_ok-keep_seal.ensures.seals
