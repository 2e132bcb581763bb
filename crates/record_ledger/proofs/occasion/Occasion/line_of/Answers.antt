use Rattle.std.proofs.Common.{◌≡◌, ◌∙◌, ap, refl, ℕ, List, Result, Ok, Err, IfOk}
use Rattle.record_history.specs.Events.{Event}
use Rattle.record_history.specs.Lines as lines
use Rattle.record_history.specs.Spelled.{IsSpelled}
use Rattle.record_history.specs.Views.{deed_view}
use Rattle.record_ledger.specs.Notes.{TellsOf}
use Rattle.record_ledger.specs.declared.occasion.Occasion.{Occasion}
use Rattle.record_ledger.proofs.occasion.Occasion.line_of.Goals as goal

module _ {K X E : Type 0} (occasion : Occasion K) (number n : ℕ) (event : Event) (items : X → List ℕ) where
  tells : (result : Result X E) → n ≡ number → event.who ≡ occasion.who.now → event.notes ≡ occasion.notes.now
      → event.reason ≡ occasion.reason.now → IsSpelled event → IfOk result (λ v. items v ≡ lines.line_of n event)
      → IfOk result (λ v. TellsOf occasion number event.deed (items v))
  tells (Ok v) same who notes reason spelled is = record {
    event = event;
    line_is = is ∙ ap (λ k. lines.line_of k event) same;
    who = who;
    deed_is = refl;
    notes = notes;
    reason = reason;
    spelled = spelled;
  }
  tells (Err e) same who notes reason spelled is = tt

pub returns : goal.returns
returns g c =
    let told = c.args.self.now in
    let event : Event = record {
      moment = c.moment.result;
      who = told.who.now;
      deed = deed_view c.args.deed;
      notes = told.notes.now;
      reason = told.reason.now;
    } in
    tells told c.args.number c.from.result event (λ v. v.items) c.event_line.result c.from.ensures refl refl refl
    (record { moment = c.moment.ensures; deed = c.requires }) c.event_line.ensures
