use Rattle.std.proofs.Common.{◌≡◌, ◌∙◌, sym, ap, rules, true, false}
use Rattle.std.proofs.lemmas.Bool.{not-true, not-false}
use Rattle.jiff.specs.Words.{epoch_day}
use Rattle.record_archive.specs.Archive as archive
use Rattle.record_archive.specs.Archive.{Archive, Record}
use Rattle.record_choice.specs.Entries.{entry_view, name_list}
use Rattle.record_choice.proofs.Judged.{has_names, refused_destroyed, refused_held, refused_kept, refused_early, destroyed_now}
use Rattle.record_choice.proofs.Judged.{held_by_entry, names_by_entry, due_by_entry, date_by_entry, scheduled}
use Rattle.record_choice.proofs.reasons.judge.Goals as goal

pub returns-then-entry : goal.returns-then-entry
returns-then-entry c = λ (a : Archive) n (r : Record) same at own shown.
    refused_destroyed a n (epoch_day c.args.day) r at (sym (ap (λ e. e.destroyed) shown) ∙ c.if-entry.true)

pub returns-then-has_any : goal.returns-then-has_any
returns-then-has_any c = λ (a : Archive) n (r : Record) same at own shown.
    let e = entry_view c.args.entry in
    let live = sym (ap (λ x. x.destroyed) shown) ∙ c.if-entry.false in
    let held = sym (held_by_entry a n r e shown own) ∙ has_names c.as_slice.ensures.value c.has_any.ensures ∙ c.if-has_any.true in
    let same_names = ap (λ holds. name_list holds.items) c.into_holds.ensures in
    (refused_held a n (epoch_day c.args.day) r at live held, same_names ∙ names_by_entry a n r e shown own)

pub returns-then-not-destroys : goal.returns-then-not-destroys
returns-then-not-destroys c = λ (a : Archive) n (r : Record) same at own shown.
    let e = entry_view c.args.entry in
    let live = sym (ap (λ x. x.destroyed) shown) ∙ c.if-entry.false in
    let free = sym (held_by_entry a n r e shown own) ∙ has_names c.as_slice.ensures.value c.has_any.ensures ∙ c.if-has_any.false in
    let no : c.destroys.result ≡ false = search (rules, not-true) in
    let path =
    scheduled a c.args.plan.now r e c.as_slice-2.result.now c.schedule_of-schedule.result same shown c.as_slice-2.ensures.value
    c.schedule_of-schedule.ensures.schedule in
    (refused_kept a n (epoch_day c.args.day) r at live free (ap archive.destroys (sym path) ∙ sym c.destroys.ensures ∙ no), (r, at, path))

pub returns-then-not-is_due : goal.returns-then-not-is_due
returns-then-not-is_due c = λ (a : Archive) n (r : Record) same at own shown.
    let e = entry_view c.args.entry in
    let live = sym (ap (λ x. x.destroyed) shown) ∙ c.if-entry.false in
    let free = sym (held_by_entry a n r e shown own) ∙ has_names c.as_slice.ensures.value c.has_any.ensures ∙ c.if-has_any.false in
    let yes : c.destroys.result ≡ true = search (rules, not-false) in
    let no : c.is_due.result ≡ false = search (rules, not-true) in
    let path =
    scheduled a c.args.plan.now r e c.as_slice-2.result.now c.schedule_of-schedule.result same shown c.as_slice-2.ensures.value
    c.schedule_of-schedule.ensures.schedule in
    let early = sym (due_by_entry a r e (epoch_day c.args.day) shown live) ∙ sym c.is_due.ensures ∙ no in (
      refused_early a n (epoch_day c.args.day) r at live free (ap archive.destroys (sym path) ∙ sym c.destroys.ensures ∙ yes) early,
      (r, at, date_by_entry a r e shown live),
    )

pub returns : goal.returns
returns c = λ (a : Archive) n (r : Record) same at own shown.
    let e = entry_view c.args.entry in
    let live = sym (ap (λ x. x.destroyed) shown) ∙ c.if-entry.false in
    let free = sym (held_by_entry a n r e shown own) ∙ has_names c.as_slice.ensures.value c.has_any.ensures ∙ c.if-has_any.false in
    let yes : c.destroys.result ≡ true = search (rules, not-false) in
    let due : c.is_due.result ≡ true = search (rules, not-false) in
    let path =
    scheduled a c.args.plan.now r e c.as_slice-2.result.now c.schedule_of-schedule.result same shown c.as_slice-2.ensures.value
    c.schedule_of-schedule.ensures.schedule in
    let by = sym (due_by_entry a r e (epoch_day c.args.day) shown live) ∙ sym c.is_due.ensures ∙ due in
    (_, destroyed_now a n (epoch_day c.args.day) r at live free (ap archive.destroys (sym path) ∙ sym c.destroys.ensures ∙ yes) by)
