use Rattle.std.proofs.Common.{◌≡◌, ◌∙◌, pos, option_map, unsigned_abs, arith, ap, ap₂}
use Rattle.std.proofs.lemmas.Int.{ints}
use Rattle.jiff.specs.Words.{epoch_day}
use Rattle.class_plan.specs.Calendar.{due_on}
use Rattle.record_tables.specs.CodeRows.{record_of}
use Rattle.record_choice.specs.Entries.{due_if_live, name_list}
use Rattle.record_store.proofs.EntryLoops.{due_seen, due_none, due_live}
use Rattle.record_store.proofs.entries.entry_of.Goals as goal
use Rattle.record_store.proofs.entries.entry_of.Goals.{then-row, else-row}

pub returns-clause-entry : goal.returns-clause-entry
returns-clause-entry c =
    let r = record_of c.args.row in
    let p = c.args.plan.now in
    let day : epoch_day c.in-Some.day ≡ pos c.args.row.day = omega (arith, ints, c.in-Some.ensures.date.1, c.from.ensures) in
    let due : option_map epoch_day c.if-row.due ≡ option_map pos (due_if_live p r) =
    elim c.if-row.branch [
      | then-row w ↦ ap (option_map epoch_day) w.due-is ∙ due_none p r w.if-row.true
      | else-row w ↦
          ap (option_map epoch_day) w.due-is
          ∙ due_seen c.in-Some.day w.due_of-due.result (due_if_live p r)
          (w.due_of-due.ensures.number ∙ ap₂ (due_on p) w.as_slice.ensures.value (ap unsigned_abs day) ∙ due_live p r w.if-row.false)
          w.due_of-due.ensures.later
    ] in
    λ i. record {
      number = r.number;
      path = r.path;
      day = day i;
      due = due i;
      message = r.message;
      destroyed = r.destroyed;
      holds =
          name_list c.args.holds.items;
    }
