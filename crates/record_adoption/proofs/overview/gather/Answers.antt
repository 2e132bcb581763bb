use Rattle.std.proofs.Common.{◌≡◌, ◌∙◌, refl, sym, ap, subst, map, true≢false}
use Rattle.record_tables.specs.CodeRows.{record_of, hold_entry_of}
use Rattle.record_archive.specs.Archive.{Archive}
use Rattle.record_adoption.specs.Adoption.{ArchiveLists, IsJudged, lists_of}
use Rattle.record_adoption.specs.Faults.{AreInOrder}
use Rattle.record_adoption.proofs.PlanDays.{archive_in_order}
use Rattle.record_adoption.proofs.AdoptReads.{refused}
use Rattle.record_adoption.proofs.AdoptRows.{row_lists, archive_judged, judged_as, is_overview, small_below}
use Rattle.record_adoption.proofs.overview.gather.Goals.{After-as_slice-holds, After-next_after}
use Rattle.record_adoption.proofs.overview.gather.Goals as goal

-- the slices are those of the rows
sliced : (c : After-as_slice-holds) → row_lists c.as_slice-records.result.now c.as_slice-messages.result.now c.as_slice-holds.result.now
    ≡ lists_of c.args.rows.now
sliced c = λ i. record {
  records = map record_of (c.as_slice-records.ensures.value i);
  messages = c.as_slice-messages.ensures.value i;
  holds = map hold_entry_of (c.as_slice-holds.ensures.value i);
}

-- they were accepted, and the records have numbers below the next
judged : (c : After-next_after)
    → IsJudged c.args.plan (row_lists c.as_slice-records.result.now c.as_slice-messages.result.now c.as_slice-holds.result.now)
judged c = record {
  rows = c.in_ok-is_archive.ensures.0 c.if-not-is_archive.false;
  small = small_below c.next_after.result (map record_of c.as_slice-records.result.now) c.next_after.ensures.next c.next_after.ensures.small;
}

pub returns-then-not-is_archive-clause-none : goal.returns-then-not-is_archive-clause-none
returns-then-not-is_archive-clause-none c is = λ (a : Archive) plan lists archive.
    let read = sliced (goal.at.returns-then-not-is_archive-clause-none c).After-as_slice-holds ∙ lists in
    let rows = (judged_as (sym plan) (sym read) (archive_judged a archive)).rows in
    true≢false (sym (c.in_ok-is_archive.ensures.1 rows) ∙ c.if-not-is_archive.true)

pub returns-clause-found : goal.returns-clause-found
returns-clause-found c = λ (a : Archive) plan keyed lists.
    let at = goal.at.returns-clause-found c in
    is_overview _ a c.args.plan c.as_slice-records.result.now c.as_slice-messages.result.now c.as_slice-holds.result.now plan keyed
    (sliced at.After-as_slice-holds ∙ lists) (judged at.After-next_after) refl c.next_after.ensures.next c.in_ok-held.ensures
    c.in_ok-others.ensures c.in_ok-dues.ensures.rows

pub returns-clause-sound : goal.returns-clause-sound
returns-clause-sound c =
    let at = goal.at.returns-clause-sound c in
    judged_as refl (sliced at.After-as_slice-holds) (judged at.After-next_after)

pub returns-in_err-dues-clause-none : goal.returns-in_err-dues-clause-none
returns-in_err-dues-clause-none c is = λ (a : Archive) plan lists archive.
    let read = sliced (goal.at.returns-in_err-dues-clause-none c).After-as_slice-holds ∙ lists in
    c.in_err-dues.ensures.none (refused c.from_residual-in_err-dues.ensures.1 is)
    (subst AreInOrder (sym (ap (λ (l : ArchiveLists). l.records) read)) (archive_in_order a archive))
