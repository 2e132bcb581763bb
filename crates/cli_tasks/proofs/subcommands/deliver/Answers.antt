use Rattle.std.proofs.Common.{◌∙◌, ap, subst, sym}
use Rattle.cli_changes.specs.Deliveries.{is_captured}
use Rattle.cli_history.specs.declared.author.Author.{Author}
use Rattle.cli_tasks.specs.Commands.{IsTold}
use Rattle.cli_tasks.proofs.CaptureLaws.{delivered_at, ends_well_by}
use Rattle.cli_tasks.proofs.subcommands.deliver.Goals as goal

pub returns : goal.returns
returns g c =
    let author = c.in_volume.result in
    let told = c.in_ok-author.ensures in
    let rules = c.in_ok-rules.rules in
    let known = c.in_ok-timing.timing in
    let message = c.in_ok-message.message in
    let volume = c.in_ok-capturing.capturing.volume in
    let volumes = c.of.result.volumes in
    let became = c.in_ok-delivery.delivery in
    ends_well_by c.report_delivery.result (is_captured became.outcome) c.report_delivery.ensures (λ captured. record {
      volume = volume;
      author = author;
      is_meant = subst (λ (a : Author). IsTold c.args.told.now a) (sym c.in_volume.ensures) (record { name = told.name; reason = told.reason });
      of_volume = ap (λ (a : Author). a.volume) c.in_volume.ensures;
      rules = rules;
      on_fault = c.in_ok-rules.ensures.on_fault;
      known = known;
      moment = c.in_ok-timing.ensures;
      message = message;
      is_mail = c.in_ok-judge_mail.ensures;
      became = became;
      captured = captured;
      delivered = delivered_at g.A.Kept.Store g.A.Archives.is_at c.args.archives.now c.of.result.archives.now c.as_str.result.now
          c.args.store.now volumes.folder.now volume volumes.last author rules known message became c.of.ensures.archives
          c.of.ensures.folder c.of.ensures.last (c.as_str.ensures.value ∙ c.in_ok-capturing.ensures) c.in_ok-delivery.ensures;
    })
