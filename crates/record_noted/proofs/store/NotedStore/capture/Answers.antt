use Rattle.std.proofs.Common.{◌≡◌, ◌≤◌, ◌∙◌, ℕ, ap, map, Option, arith}
use Rattle.class_plan.specs.Calendar.{number_of_day}
use Rattle.record_archive.specs.Lines.{line_view}
use Rattle.record_history.specs.Replay.{seal}
use Rattle.record_archive.specs.Archive as archive
use Rattle.record_archive.specs.Archive.{Archive, next_number}
use Rattle.record_history.specs.Events.{Event, Deed, Captured, Filing}
use Rattle.record_noted.proofs.HistoryLemmas.{told, has_number_left}
use Rattle.record_noted.proofs.store.NotedStore.capture.Goals as goal

pub returns-clause-told : goal.returns-clause-told
returns-clause-told g c = λ (e : Event) (filing : Option Filing) (first : ℕ) is of.
    let law = c.commands_are_told.ensures in
    let body = c.args.body.now in
    let day = number_of_day c.args.day in
    let paths = c.args.paths.now in
    let deed : ℕ → Deed = λ n. Captured n (seal body) day filing paths in
    told g.S.Store c.args.self.now c.note_capture.new.self c.note_capture.result (λ a. archive.capture a body day paths)
    (λ a lines. map line_view lines.items ≡ archive.capture_lines a day paths) c.args.line.now
    (λ (a : Archive). deed (next_number a)) e of.line_is
    (λ a b s made.
    let low : next_number a ≤ 4294967295 = has_number_left a b body day paths c.requires.some made in
    of.deed_is ∙ ap deed (is (omega (arith, s.next, low)) ∙ s.next))
    (law.lines (λ (a : Archive). deed (next_number a)) (λ a. archive.capture a body day paths) (law.captures body day filing paths))
    c.note_capture.ensures
