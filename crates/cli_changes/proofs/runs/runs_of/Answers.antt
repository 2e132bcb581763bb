use Rattle.std.proofs.Common.{◌≡◌, ◌∙◌, ◌++◌, ◌∷◌, [], get_or, map, sym, ap, subst, refl}
use Rattle.std.proofs.lemmas.List.{map-append, take_more}
use Rattle.std.specs.List.{AllByRecursion}
use Rattle.record_archive.specs.Archive.{Archive}
use Rattle.cli_history.specs.Seals.{notes_for}
use Rattle.cli_changes.specs.Runs.{IsFidelityOf, IsNoted, noted}
use Rattle.cli_changes.proofs.RunLaws.{all_more}
use Rattle.cli_changes.proofs.runs.runs_of.Goals as goal

pub loop-number-preserved : goal.loop-number-preserved
loop-number-preserved g c =
    let so_far = c.loop-number.invariant in
    let numbers = c.as_slice-number-items.result.now in
    let i = c.loop-number.number-index in
    let fidelity = c.in_ok-judged.judged.fidelity in
    let number = get_or numbers i 0 in
    let added : noted c.add_to_runs.new.runs.items ≡ noted c.loop-number.runs.items ++ (number, notes_for fidelity) ∷ [] =
    c.in_ok-add_to_runs.ensures.added in
    record {
      reads = record {
        stands = λ (a : Archive) s. c.judged_of.ensures.reads.stands a (so_far.reads.stands a s);
        falls = λ clean. so_far.reads.falls (c.judged_of.ensures.reads.falls clean);
      };
      these =
          ap (map (λ p. p.0)) added ∙ map-append (λ p. p.0) (noted c.loop-number.runs.items) ((number, notes_for fidelity) ∷ [])
          ∙ ap (λ l. l ++ number ∷ []) so_far.these ∙ sym (take_more numbers i 0 c.loop-number-test.true);
      filled = c.in_ok-add_to_runs.ensures.filled so_far.filled;
      noted = λ clean (a : Archive) s.
          let before = so_far.noted (c.judged_of.ensures.reads.falls clean) a s in
          let told = c.in_ok-judged.ensures.told clean a (so_far.reads.stands a s) before.1 in
          let message = told.2.0 in
          let is = told.2.1 in (
            subst (AllByRecursion (IsNoted c.args.seals.now a)) (sym added)
                (all_more (IsNoted c.args.seals.now a) (noted c.loop-number.runs.items) (number, notes_for fidelity) before.0
                (told.0, told.1, (fidelity, subst (λ m. IsFidelityOf c.args.seals.now a m fidelity) (sym message) is, refl))),
            is,
          );
    }
