use Rattle.std.specs.Prelude.{length}
use Rattle.std.proofs.Common.{◌≡◌, ◌∙◌, ℕ, List, ap, subst, sym, true}
use Rattle.class_plan.specs.Plans.{Listing, has}
use Rattle.record_archive.specs.Archive.{Archive}
use Rattle.cli_changes.specs.declared.refile.MoveTally.{MoveTally}
use Rattle.cli_tasks.proofs.volume_refilings.FindMoves.perform.Goals as goal

pub returns : goal.returns
returns g c = record {
  moves = λ clean (a : Archive) s. c.into_numbers.ensures ∙ c.in_ok-moves.ensures.moves clean a s;
  counted = ap (λ (t : MoveTally). t.count) c.tally.ensures ∙ ap (λ (ns : List ℕ). length ns) (sym c.into_numbers.ensures);
  well = λ none clean (a : Archive) s.
      let accepted = sym (ap (λ (t : MoveTally). t.is_refused) c.tally.ensures) ∙ none in
      record {
        class = subst (λ (p : Listing). has p.rows c.args.self.now.asked.to.now ≡ true) (c.plan.ensures.stands a s)
            c.in_ok-judge_refiling.ensures.class;
        each_found = c.in_ok-moves.ensures.found accepted clean a s;
        accepted = c.in_ok-moves.ensures.refused accepted clean a s;
      };
}
