use Rattle.std.proofs.Common.{◌≡◌, ◌∙◌, ap, refl, subst}
use Rattle.std.specs.declared.prelude.LibcRuntime.{LibcRuntime}
use Rattle.record_ledger.specs.declared.ledger.Ledger.{Ledger}
use Rattle.cli_history.specs.Authors.{IsOccasionOf}
use Rattle.cli_history.specs.declared.seals.Seals.{Seals}
use Rattle.cli_tasks.proofs.ChangeLemmas.{made_by}
use Rattle.cli_tasks.proofs.changes.ChangeByWork.work.Goals as goal

pub returns : goal.returns
returns g c =
    let change = c.args.self.change in
    let author = c.args.self.author in
    let opened = c.in-Ok-open_with_seals.open in
    made_by g.S.Store (g.C.LedgerWork.purpose_by change c.args.archive.plan) c.in-Ok.purpose author c.args.archive
    c.seals_for_list.new.archive c.in-Ok-seals_for_list.listed opened.1 c.unwrap_or.result opened.0 c.perform-done.new.ledger
    c.perform-done.result
    (λ (old new : Ledger g.row.S.Denot LibcRuntime) (seals : Seals).
    g.C.LedgerWork.makes g.row.S.Denot g.S.Store change old new c.perform-done.result seals) c.into_connection-2.result
    (subst (λ p. c.in-Ok.purpose ≡ g.C.LedgerWork.purpose_by change p) c.plan.ensures.value c.in-Ok.ensures)
    c.in-Ok-seals_for_list.ensures.none c.seals_for_list.ensures.same c.seals_for_list.ensures.looks c.in-Ok-open_with_seals.ensures.opens
    (subst (λ f. IsOccasionOf author f opened.0.occasion) (c.filing_of-filing.ensures refl) c.in-Ok-open_with_seals.ensures.occasion)
    c.unwrap_or.ensures c.perform-done.ensures (c.into_connection-2.ensures ∙ ap (λ s. s.conn) c.into_store.ensures)
