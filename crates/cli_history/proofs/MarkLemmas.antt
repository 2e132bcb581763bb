-- An event whose mark begins so, looked for a row at a time.
use Rattle.std.proofs.Common.{◌≡◌, ◌++◌, ◌∷◌, ◌∙◌, [], ℕ, List, Option, Some, None, cond, ap, sym}
use Rattle.record_tables.specs.Events.{Event as Row}
use Rattle.record_reads.specs.Events.{event_of}
use Rattle.record_reads.specs.declared.events.EventRow.{EventRow}
use Rattle.cli_history.specs.Judgements.{IsMet, begins_so}
use Rattle.cli_history.specs.Marks.{met_after}
use Rattle.cli_history.specs.Seals.{later}
use Rattle.cli_history.proofs.JudgementLemmas.{marked_more, met_later}

-- ONE ROW MORE
pub met_more : (front : List ℕ) (row : EventRow) (before after : Option ℕ) (rows : List Row)
    → after ≡ met_after (begins_so front row.mark.items) row.number before → IsMet front before rows → IsMet front after (rows ++ event_of row ∷ [])
met_more front row before after rows is met =
    is ∙ met_later (begins_so front row.mark.items) row.number before
    ∙ ap (later (cond (begins_so front row.mark.items) (Some row.number) None)) met
    ∙ sym (marked_more (begins_so front) rows (event_of row))
