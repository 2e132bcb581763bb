-- A history that is judged while it is read, a row at a time and a page at a time.
use Rattle.std.proofs.Common.{◌≡◌, ◌+◌, ◌<◌, ◌≤◌, ◌++◌, ◌∷◌, [], ℕ, List, true, Option, Some, None, map, take, get_or, length, ap, sym, subst}
use Rattle.std.proofs.lemmas.List.{map-append}
use Rattle.std.specs.Prelude.{is_none, is_some}
use Rattle.record_tables.specs.Events.{Event as Row}
use Rattle.record_reads.specs.Events.{event_of}
use Rattle.record_reads.specs.declared.events.EventRow.{EventRow}
use Rattle.record_judge.specs.Judging.{Judges}
use Rattle.record_judge.specs.Sealed.{archive_view}
use Rattle.record_judge.specs.declared.judge.Judge.{Judge}
use Rattle.record_noted.specs.Histories.{rows_of}
use Rattle.cli_history.specs.Lawful.{IsLawful, Watches}
use Rattle.cli_history.specs.declared.watching.Watch.{Watch}
use Rattle.cli_history.proofs.WalkLemmas.{all_of_page, lines_of_rows, more_of_page}

pub not_both : (o : Option ℕ) → is_some o ≡ true → is_none o ≡ true → ⊥
not_both None some none = absurd cc
not_both (Some n) some none = absurd cc

-- ONE ROW MORE, against which nothing stands where nothing stood against those before
pub watched_more : (row : EventRow) (old new : Watch) (rows : List Row) → (is_none new.fault ≡ true → is_none old.fault ≡ true)
    → ((ls : List (List ℕ)) → Judges old.judge ls → Judges new.judge (ls ++ row.line.items ∷ [])) → Watches old rows
    → Watches new (rows ++ event_of row ∷ [])
watched_more row old new rows stays judges watches = λ sound.
    let seen : Judges old.judge (map (λ (r : Row). r.line) rows) = watches (stays sound) in
    subst (Judges new.judge) (sym (map-append (λ (r : Row). r.line) rows (event_of row ∷ [])))
    (judges (map (λ (r : Row). r.line) rows) seen)

-- the same judge
pub watched_same : (old new : Watch) (rows : List Row) → new ≡ old → Watches old rows → Watches new rows
watched_same old new rows same watches = subst (λ (w : Watch). Watches w rows) (sym same) watches

-- ---- a whole history

-- the lines that a judge has seen are lawful
pub seen_lawful : (j : Judge) (ls : List (List ℕ)) → Judges j ls → IsLawful ls
seen_lawful j ls judges = record {
  events = judges.events;
  lines = judges.lines;
  archive = archive_view j.archive;
  replayed = judges.replayed;
  told_truly = judges.told_truly;
}

-- THE HISTORY IS LAWFUL where nothing stands against one of its rows
pub lawful : (watch : Watch) (ls : List (List ℕ)) → Watches watch (rows_of ls) → is_none watch.fault ≡ true → IsLawful ls
lawful watch ls watches sound =
    seen_lawful watch.judge ls (subst (Judges watch.judge) (lines_of_rows 1 [] ls) (watches sound))
