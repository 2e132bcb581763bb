use Rattle.std.proofs.Common.{refl, ap, sym, subst, inl, inr, ◌∙◌}
use Rattle.cli_changes.specs.Desks.{IsDeskOf}
use Rattle.cli_changes.specs.Imports.{IsImport, round_by}
use Rattle.cli_changes.specs.declared.import.MailImport.{MailImport}
use Rattle.cli_changes.proofs.import.import_into.Goals as goal

pub returns-in-Err : goal.returns-in-Err
returns-in-Err g c = inr (c.in-Err.failure, refl, c.in-Err.ensures.given_back)

pub returns : goal.returns
returns g c = inl (record {
  before = c.new-begun.result.0;
  after = c.take_sources-done.new.room;
  progress = c.take_sources-done.new.progress;
  ended = c.take_sources-done.result;
  rules = ap (λ (job : MailImport). job.filing) c.new-begun.ensures.job;
  place_is = c.new-begun.ensures.place;
  begins = c.new-begun.ensures.rounds;
  desk = subst (IsDeskOf g.A.Records.keeper c.args.job.filing c.args.archive) (sym c.new-begun.ensures.desk) c.in-Ok.ensures.desk;
  done = subst (λ p. IsImport g.A.Records.keeper c.args.job.terms p c.new-begun.result.0 c.take_sources-done.new.room
      c.take_sources-done.new.progress c.take_sources-done.result) c.new-begun.ensures.progress c.take_sources-done.ensures;
  round = c.into_round.ensures.round
      ∙ ap (λ sources. round_by c.take_sources-done.new.room sources c.take_sources-done.new.progress c.take_sources-done.result)
      c.replace-sources.ensures.value;
  given_back = c.into_round.ensures.archive;
})
