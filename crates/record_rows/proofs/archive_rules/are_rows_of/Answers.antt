use Rattle.std.proofs.Common.{map, sym, ◌∙◌}
use Rattle.record_tables.specs.CodeRows.{record_of, hold_entry_of}
use Rattle.record_rows.proofs.Judging.{rows-sound, rows-in_order, rows-messages, rows-once, rows-named, rows-held, passed-rows, never}
use Rattle.record_rows.proofs.archive_rules.are_rows_of.Goals as goal
use Rattle.record_rows.proofs.archive_rules.are_rows_of.Goals.{then-not-are_sound-via-then-not-are_sound}
use Rattle.record_rows.proofs.archive_rules.are_rows_of.Goals.{then-not-are_sound-via-else-not-are_sound+then-not-do_records_rise}
use Rattle.record_rows.proofs.archive_rules.are_rows_of.Goals.{then-not-do_rise-via-then-not-do_rise}
use Rattle.record_rows.proofs.archive_rules.are_rows_of.Goals.{then-not-do_rise-via-else-not-do_rise+then-not-do_holds_rise}

pub returns-then-not-are_sound : goal.returns-then-not-are_sound
returns-then-not-are_sound c = (
  never,
  λ h. elim c.then-not-are_sound.branch [
    | then-not-are_sound-via-then-not-are_sound w ↦ sym w.if-not-are_sound.true ∙ c.are_sound.ensures
        ∙ rows-sound c.args.plan.now c.args.records.now c.args.messages.now (map hold_entry_of c.args.holds.now) h
    | then-not-are_sound-via-else-not-are_sound+then-not-do_records_rise w ↦ sym w.if-not-do_records_rise.true
        ∙ w.do_records_rise.ensures
        ∙ rows-in_order c.args.plan.now c.args.records.now c.args.messages.now (map hold_entry_of c.args.holds.now) h
  ],
)

pub returns-then-not-do_rise : goal.returns-then-not-do_rise
returns-then-not-do_rise c = (
  never,
  λ h. elim c.then-not-do_rise.branch [
    | then-not-do_rise-via-then-not-do_rise w ↦ sym w.if-not-do_rise.true ∙ c.do_rise.ensures
        ∙ rows-messages c.args.plan.now (map record_of c.args.records.now) c.args.messages.now
        (map hold_entry_of c.args.holds.now) h
    | then-not-do_rise-via-else-not-do_rise+then-not-do_holds_rise w ↦ sym w.if-not-do_holds_rise.true
        ∙ w.do_holds_rise.ensures
        ∙ rows-once c.args.plan.now (map record_of c.args.records.now) c.args.messages.now
        (map hold_entry_of c.args.holds.now) h
  ],
)

pub returns-then-not-has_just : goal.returns-then-not-has_just
returns-then-not-has_just c = (
  never,
  λ h.
      sym c.if-not-has_just.true ∙ c.has_just.ensures.same
      ∙ rows-named c.args.plan.now (map record_of c.args.records.now) c.args.messages.now
      (map hold_entry_of c.args.holds.now) c.in_ok-named.named.keys c.has_just.ensures.in_order
      c.in_ok-named.ensures h,
)

pub returns : goal.returns
returns c = (
  λ e. passed-rows c.args.plan.now c.args.records.now c.args.messages.now c.args.holds.now c.in_ok-named.named.keys
      c.in_ok-live.live.keys c.in_ok-named.ensures c.in_ok-live.ensures
      (sym c.are_sound.ensures ∙ c.if-not-are_sound.false) (sym c.do_records_rise.ensures
      ∙ c.if-not-do_records_rise.false) (sym c.do_rise.ensures ∙ c.if-not-do_rise.false)
      (sym c.do_holds_rise.ensures ∙ c.if-not-do_holds_rise.false) (sym c.has_just.ensures.same ∙ c.if-not-has_just.false) (sym c.are_of.ensures ∙ e),
  λ h. c.are_of.ensures
      ∙ rows-held c.args.plan.now (map record_of c.args.records.now) c.args.messages.now c.args.holds.now
      c.in_ok-live.live.keys c.in_ok-live.ensures h,
)
