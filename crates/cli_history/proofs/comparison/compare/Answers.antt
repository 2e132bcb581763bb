use Rattle.std.proofs.Common.{◌∙◌, ℕ, List, ap}
use Rattle.record_archive.specs.Archive.{Archive}
use Rattle.cli_history.specs.declared.comparison.Comparison.{Comparison}
use Rattle.cli_history.proofs.MadeLemmas.{made_at}
use Rattle.cli_history.proofs.comparison.compare.Goals as goal

pub returns-clause-same : goal.returns-clause-same
returns-clause-same g c = λ same clean (a : Archive) (ls : List (List ℕ)) stands.
    made_at c.args.depth c.args.made.now a c.in_ok-comparison.comparison c.compare_all.new.self c.note_all_gone.new.self
    c.plan.result.now (c.plan.ensures ∙ stands.stands.plan) c.in_ok-comparison.ensures (c.in_ok-compare_all.ensures.met clean a ls stands)
    c.in_ok-note_all_gone.ensures.noted (ap (λ (x : Comparison). x.records) c.note_all_gone.ensures.rest) same
