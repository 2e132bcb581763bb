use Rattle.std.proofs.Common.{◌∙◌, ap, refl}
use Rattle.std.specs.Option.{unwrap_or}
use Rattle.jiff.specs.Words.{epoch_day}
use Rattle.record_archive.specs.Archive as archive
use Rattle.record_archive.specs.Archive.{from_1970}
use Rattle.record_archive.specs.Calls.{Quietly}
use Rattle.record_history.specs.Lines.{line_of}
use Rattle.record_history.specs.Events.{Destroyed}
use Rattle.record_store.specs.Stores.{LacksRecord}
use Rattle.record_noted.specs.Readings.{IsScheduleOfRecord}
use Rattle.record_ledger.specs.Notes.{number_since_1970 as number_since}
use Rattle.record_ledger.specs.Notings.{IsDestruction}
use Rattle.record_ledger.proofs.CarryLemmas.{carried_out, found_open, not_open, open_still, refused_by, refused_out, no_record}
use Rattle.record_ledger.proofs.NotingLemmas.{deed_noted, unnoted}
use Rattle.record_ledger.proofs.noted.destroy.Goals as goal

pub returns-in_err-ensure_open : goal.returns-in_err-ensure_open
returns-in_err-ensure_open g c =
    let opened = c.ensure_open.ensures in
    record {
      carries =
          not_open g.S.Store c.args.noted.now c.ensure_open.new.self _ _ opened.stands opened.falls opened.crash _ c.in_err-ensure_open.field-0.0
          c.from_residual.ensures.0 c.from_residual.ensures.1 c.in_err-ensure_open.ensures.trouble;
      notes = unnoted g.S.Store c.args.noted.now c.ensure_open.new.self c.args.occasion.now
          (λ a. archive.destroy_on a c.args.number (epoch_day c.args.day))
          (IsDestruction c.args.number (number_since c.args.day))
          c.from_residual.result c.from_residual.ensures.0;
    }

pub returns-in_err-schedule : goal.returns-in_err-schedule
returns-in_err-schedule g c =
    let opened = c.ensure_open.ensures in
    let found = found_open g.S.Store c.args.noted.now c.ensure_open.new.self opened.stands opened.falls
    c.in_ok-ensure_open.ensures.open opened.crash in
    record {
      carries =
          refused_by g.S.Store c.args.noted.now c.ensure_open.new.self c.schedule_of.new.self found (IsScheduleOfRecord c.args.number)
          (LacksRecord c.args.number) c.in_err-schedule.field-0.0 c.in_err-schedule.ensures.reads
          (λ a. archive.destroy_on a c.args.number (epoch_day c.args.day)) (no_record c.args.number (epoch_day c.args.day)) Quietly _
          c.from_residual-in_err-schedule.ensures.0 c.from_residual-in_err-schedule.ensures.1;
      notes = unnoted g.S.Store c.args.noted.now c.schedule_of.new.self c.args.occasion.now
          (λ a. archive.destroy_on a c.args.number (epoch_day c.args.day))
          (IsDestruction c.args.number (number_since c.args.day))
          c.from_residual-in_err-schedule.result c.from_residual-in_err-schedule.ensures.0;
    }

pub returns-in_err-line : goal.returns-in_err-line
returns-in_err-line g c =
    let opened = c.ensure_open.ensures in
    let found = found_open g.S.Store c.args.noted.now c.ensure_open.new.self opened.stands opened.falls
    c.in_ok-ensure_open.ensures.open opened.crash in
    let still =
    open_still g.S.Store c.args.noted.now c.ensure_open.new.self c.schedule_of.new.self found (IsScheduleOfRecord c.args.number)
    (LacksRecord c.args.number) c.schedule_of.result c.schedule_of.ensures.reads c.in_ok-schedule.ensures.open in
    record {
      carries =
          refused_out g.S.Store c.args.noted.now c.schedule_of.new.self still _ _ _ c.from_residual-in_err-line.ensures.0
          c.from_residual-in_err-line.ensures.1;
      notes = unnoted g.S.Store c.args.noted.now c.schedule_of.new.self c.args.occasion.now
          (λ a. archive.destroy_on a c.args.number (epoch_day c.args.day))
          (IsDestruction c.args.number (number_since c.args.day))
          c.from_residual-in_err-line.result c.from_residual-in_err-line.ensures.0;
    }

pub returns : goal.returns
returns g c =
    let opened = c.ensure_open.ensures in
    let found = found_open g.S.Store c.args.noted.now c.ensure_open.new.self opened.stands opened.falls
    c.in_ok-ensure_open.ensures.open opened.crash in
    let still =
    open_still g.S.Store c.args.noted.now c.ensure_open.new.self c.schedule_of.new.self found (IsScheduleOfRecord c.args.number)
    (LacksRecord c.args.number) c.schedule_of.result c.schedule_of.ensures.reads c.in_ok-schedule.ensures.open in
    let note = c.in_ok-line.ensures in
    let done = c.destroy-done.ensures in
    record {
      carries =
          carried_out g.S.Store c.args.noted.now c.schedule_of.new.self c.destroy-done.new.self still
          (λ a. archive.destroy_on a c.args.number (epoch_day c.args.day)) Quietly c.as_slice.result.now c.is_idle-idle.ensures.left
          c.destroy-done.result done.notes
          (done.told note.event c.number_since_1970.result c.in_ok-schedule.schedule
          (λ n is. c.number_since_1970.ensures.number ∙ ap (λ z. unwrap_or (from_1970 z) 0) is)
          (record {
            line_is = c.as_slice.ensures.value ∙ note.line_is ∙ ap (λ n. line_of n note.event) c.next.ensures;
            deed_is = note.deed_is;
          }));
      notes = deed_noted g.S.Store c.args.noted.now c.schedule_of.new.self c.destroy-done.new.self
          (λ a ls s. c.schedule_of.ensures.lines a ls (opened.lines a ls s)) c.args.occasion.now
          (λ a. archive.destroy_on a c.args.number (epoch_day c.args.day)) Quietly
          _ _ _ _ c.as_slice.result.now note c.next.ensures
          (ap (λ n. Destroyed c.args.number n c.in_ok-schedule.schedule) c.number_since_1970.ensures.number) c.as_slice.ensures.value
          (IsDestruction c.args.number (number_since c.args.day)) c.destroy-done.result done.notes
          (λ clean a ls s told. (
            c.in_ok-schedule.schedule,
            c.in_ok-schedule.ensures.reads.tells a ls (opened.lines a ls s) clean,
            refl,
          ));
    }
