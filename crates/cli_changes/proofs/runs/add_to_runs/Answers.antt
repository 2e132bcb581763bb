use Rattle.std.proofs.Common.{rules, arith, ◌≡◌, ◌∙◌, ◌+◌, ◌-◌, ◌++◌, ◌∷◌, [], map, length, ap}
use Rattle.std.proofs.lemmas.List.{map-append}
use Rattle.std.specs.Prelude.{slice_index_or}
use Rattle.std.specs.Vec.{vec_len}
use Rattle.cli_history.specs.Seals.{notes_for}
use Rattle.cli_changes.specs.Runs.{noted_in}
use Rattle.cli_changes.proofs.RunLaws.{noted_at_end}
use Rattle.cli_changes.proofs.runs.add_to_runs.Goals as goal

pub returns-then-eq-clause-added : goal.returns-then-eq-clause-added
returns-then-eq-clause-added c =
    let run = c.in-Some.run'.now in
    let runs = c.args.runs.now.items in
    let i = vec_len c.args.runs.now - 1 in
    let number = c.args.number in
    let same : notes_for run.fidelity ≡ notes_for c.args.fidelity = search rules in
    let pushed : c.push.new.self.items ≡ run.numbers.items ++ number ∷ [] = search rules in
    let last : run ≡ slice_index_or runs i run = c.in-Some.ensures.value in
    let at : i + 1 ≡ length runs = search (rules, arith) in
    noted_at_end runs i _ run (number, notes_for c.args.fidelity) at
    (ap (map (λ n. (n, notes_for run.fidelity))) pushed
    ∙ map-append (λ n. (n, notes_for run.fidelity)) run.numbers.items (number ∷ [])
    ∙ ap (λ notes. map (λ n. (n, notes_for run.fidelity)) run.numbers.items ++ (number, notes) ∷ []) same
    ∙ ap (λ r. noted_in r ++ (number, notes_for c.args.fidelity) ∷ []) last)
