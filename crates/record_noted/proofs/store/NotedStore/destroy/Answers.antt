use Rattle.std.proofs.Common.{◌≡◌, ℕ, ℤ, pos, negsuc, refl, subst}
use Rattle.jiff.specs.Words.{epoch_day}
use Rattle.class_plan.specs.declared.schedules.Schedule.{Schedule}
use Rattle.record_archive.specs.Archive as archive
use Rattle.record_archive.specs.Archive.{Archive}
use Rattle.record_archive.specs.Calls.{Quietly}
use Rattle.record_history.specs.Events.{Event, Destroyed}
use Rattle.record_history.specs.Laws.{CommandsAreTold, TellsInLines}
use Rattle.record_noted.proofs.HistoryLemmas.{told}
use Rattle.record_noted.proofs.store.NotedStore.destroy.Goals as goal

-- by a day before 1970 there is no destruction to tell of
destructions_told : CommandsAreTold → (n on : ℕ) (schedule : Schedule) (day : ℤ) → ((m : ℕ) → day ≡ pos m → on ≡ m)
    → TellsInLines (λ (a : Archive). Destroyed n on schedule) (λ a. archive.destroy_on a n day)
destructions_told law n on schedule (pos m) is =
    subst (λ k. TellsInLines (λ (a : Archive). Destroyed n on schedule) (λ a. archive.destroy a n k)) (is m refl)
    (law.lines (λ (a : Archive). Destroyed n on schedule) (λ a. archive.destroy a n on) (law.destructions n on schedule))
destructions_told law n on schedule (negsuc k) is = λ e a b ls was made same. absurd (law.none_before_1970 n k a b made)

pub returns-clause-told : goal.returns-clause-told
returns-clause-told g c = λ (e : Event) (on : ℕ) (schedule : Schedule) is of.
    let n = c.args.number in
    told g.S.Store c.args.self.now c.note_destroy.new.self c.note_destroy.result (λ a. archive.destroy_on a n (epoch_day c.args.day)) Quietly
    c.args.line.now (λ (a : Archive). Destroyed n on schedule) e of.line_is (λ a b s made. of.deed_is)
    (destructions_told c.commands_are_told.ensures n on schedule (epoch_day c.args.day) is) c.note_destroy.ensures
