use Rattle.std.proofs.Common.{◌≡◌, ◌∙◌, ap, arith, map, option_map, length, min}
use Rattle.std.proofs.lemmas.Bool.Decides.{nat_tests}
use Rattle.class_plan.specs.Calendar.{number_of_day}
use Rattle.record_archive.specs.Archive as archive
use Rattle.record_archive.specs.Lines.{line_view}
use Rattle.record_history.specs.Events.{Captured}
use Rattle.record_history.specs.Lines.{line_of}
use Rattle.record_history.specs.Views.{filing_view}
use Rattle.record_history.specs.Replay.{seal}
use Rattle.record_ledger.specs.Notings.{captured}
use Rattle.record_ledger.proofs.CarryLemmas.{carried_out, found_open, not_open, nothing_out, refused_out, no_paths, no_lines}
use Rattle.record_ledger.proofs.NotingLemmas.{deed_noted, unnoted}
use Rattle.record_ledger.proofs.noted.capture.Goals as goal

pub returns-in_err-ensure_open : goal.returns-in_err-ensure_open
returns-in_err-ensure_open g c =
    let opened = c.ensure_open.ensures in
    record {
      carries =
          not_open g.S.Store c.args.noted.now c.ensure_open.new.self _ _ opened.stands opened.falls opened.crash _ c.in_err-ensure_open.field-0.0
          c.from_residual.ensures.0 c.from_residual.ensures.1 c.in_err-ensure_open.ensures.trouble;
      notes = λ some. unnoted g.S.Store c.args.noted.now c.ensure_open.new.self c.args.occasion.now
          (λ a. archive.capture a c.args.body.now (number_of_day c.args.day) c.args.paths.now)
          (λ a d. d ≡ captured c.args.occasion.now a c.args.body.now (number_of_day c.args.day) c.args.paths.now)
          c.from_residual.result c.from_residual.ensures.0;
    }

pub returns-in_err-seal : goal.returns-in_err-seal
returns-in_err-seal g c =
    let opened = c.ensure_open.ensures in
    let found = found_open g.S.Store c.args.noted.now c.ensure_open.new.self opened.stands opened.falls
    c.in_ok-ensure_open.ensures.open opened.crash in
    record {
      carries =
          refused_out g.S.Store c.args.noted.now c.ensure_open.new.self found _ _ _ c.from_residual-in_err-seal.ensures.0
          c.from_residual-in_err-seal.ensures.1;
      notes = λ some. unnoted g.S.Store c.args.noted.now c.ensure_open.new.self c.args.occasion.now
          (λ a. archive.capture a c.args.body.now (number_of_day c.args.day) c.args.paths.now)
          (λ a d. d ≡ captured c.args.occasion.now a c.args.body.now (number_of_day c.args.day) c.args.paths.now)
          c.from_residual-in_err-seal.result c.from_residual-in_err-seal.ensures.0;
    }

pub returns-in_err-list : goal.returns-in_err-list
returns-in_err-list g c =
    let opened = c.ensure_open.ensures in
    let found = found_open g.S.Store c.args.noted.now c.ensure_open.new.self opened.stands opened.falls
    c.in_ok-ensure_open.ensures.open opened.crash in
    record {
      carries =
          refused_out g.S.Store c.args.noted.now c.ensure_open.new.self found _ _ _ c.from_residual-in_err-list.ensures.0
          c.from_residual-in_err-list.ensures.1;
      notes = λ some. unnoted g.S.Store c.args.noted.now c.ensure_open.new.self c.args.occasion.now
          (λ a. archive.capture a c.args.body.now (number_of_day c.args.day) c.args.paths.now)
          (λ a d. d ≡ captured c.args.occasion.now a c.args.body.now (number_of_day c.args.day) c.args.paths.now)
          c.from_residual-in_err-list.result c.from_residual-in_err-list.ensures.0;
    }

pub returns-in_err-line : goal.returns-in_err-line
returns-in_err-line g c =
    let opened = c.ensure_open.ensures in
    let found = found_open g.S.Store c.args.noted.now c.ensure_open.new.self opened.stands opened.falls
    c.in_ok-ensure_open.ensures.open opened.crash in
    record {
      carries =
          refused_out g.S.Store c.args.noted.now c.ensure_open.new.self found _ _ _ c.from_residual-in_err-line.ensures.0
          c.from_residual-in_err-line.ensures.1;
      notes = λ some. unnoted g.S.Store c.args.noted.now c.ensure_open.new.self c.args.occasion.now
          (λ a. archive.capture a c.args.body.now (number_of_day c.args.day) c.args.paths.now)
          (λ a d. d ≡ captured c.args.occasion.now a c.args.body.now (number_of_day c.args.day) c.args.paths.now)
          c.from_residual-in_err-line.result c.from_residual-in_err-line.ensures.0;
    }

pub returns : goal.returns
returns g c =
    let opened = c.ensure_open.ensures in
    let found = found_open g.S.Store c.args.noted.now c.ensure_open.new.self opened.stands opened.falls
    c.in_ok-ensure_open.ensures.open opened.crash in
    let note = c.in_ok-line.ensures in
    let done = c.capture-lines.ensures in
    let filing = option_map filing_view c.args.occasion.now.filing in
    let first = c.next_record.result in
    record {
      carries =
          carried_out g.S.Store c.args.noted.now c.ensure_open.new.self c.capture-lines.new.self found
          (λ a. archive.capture a c.args.body.now (number_of_day c.args.day) c.args.paths.now)
          (λ a lines. map line_view lines.items ≡ archive.capture_lines a (number_of_day c.args.day) c.args.paths.now)
          c.as_slice-2.result.now c.is_idle-idle-2.ensures.left c.capture-lines.result done.notes
          (done.told note.event filing first (λ few. omega (arith, few, c.next_record.ensures))
          (record {
            line_is = c.as_slice-2.ensures.value ∙ note.line_is ∙ ap (λ n. line_of n note.event) c.next.ensures;
            deed_is = note.deed_is
                ∙ (λ i. Captured first (c.in_ok-seal.ensures i) (c.capture_number.ensures.number i) filing (c.in_ok-list.ensures i));
          }));
      notes = λ some. deed_noted g.S.Store c.args.noted.now c.ensure_open.new.self c.capture-lines.new.self opened.lines c.args.occasion.now
          (λ a. archive.capture a c.args.body.now (number_of_day c.args.day) c.args.paths.now)
          (λ a lines. map line_view lines.items ≡ archive.capture_lines a (number_of_day c.args.day) c.args.paths.now)
          _ _ _ _ c.as_slice-2.result.now note c.next.ensures
          (λ i. Captured first (c.in_ok-seal.ensures i) (c.capture_number.ensures.number i) filing (c.in_ok-list.ensures i))
          c.as_slice-2.ensures.value
          (λ a d. d ≡ captured c.args.occasion.now a c.args.body.now (number_of_day c.args.day) c.args.paths.now) c.capture-lines.result done.notes
          (λ clean a ls s told i. Captured ((c.next_record.ensures ∙ ap (λ n. min n 4294967295) (opened.lines a ls s).stands.next) i)
          (seal c.args.body.now) (number_of_day c.args.day) filing c.args.paths.now);
    }

pub returns-then-is_empty : goal.returns-then-is_empty
returns-then-is_empty g c =
    let opened = c.ensure_open.ensures in
    let found = found_open g.S.Store c.args.noted.now c.ensure_open.new.self opened.stands opened.falls
    c.in_ok-ensure_open.ensures.open opened.crash in
    let none : length c.args.paths.now ≡ 0 = grind (arith, nat_tests, ap length c.as_slice.ensures, c.is_empty.ensures, c.if-is_empty.true) in
    record {
      carries =
          nothing_out g.S.Store c.args.noted.now c.ensure_open.new.self found
          (λ a. archive.capture a c.args.body.now (number_of_day c.args.day) c.args.paths.now)
          (λ a lines. map line_view lines.items ≡ archive.capture_lines a (number_of_day c.args.day) c.args.paths.now)
          c.is_idle-idle.ensures.left (no_paths c.args.body.now (number_of_day c.args.day) c.args.paths.now none) c.new.result
          (λ a. ap (map line_view) c.new.ensures.items ∙ no_lines (number_of_day c.args.day) c.args.paths.now none a);
      notes = λ some. absurd (omega (arith, none, some));
    }
