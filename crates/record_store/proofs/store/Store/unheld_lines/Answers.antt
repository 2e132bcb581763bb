use Rattle.std.proofs.Common.{◌==◌, ◌++◌, ◌∙◌, map, sym, subst, ap}
use Rattle.std.proofs.lemmas.List.{append-nil}
use Rattle.std.specs.List.{AllByRecursion}
use Rattle.record_reads.specs.DueRecords.{DueRecord, due_record_of}
use Rattle.record_adoption.specs.Counts.{count_at}
use Rattle.record_archive.specs.Lines.{line_view}
use Rattle.record_store.specs.Dues.{IsDatable}
use Rattle.record_store.proofs.Causes.{passed_own}
use Rattle.record_store.proofs.DueLemmas.{lines_told, line_more, line_none, is_zero, is_not_zero, no_items}
use Rattle.record_store.proofs.store.Store.unheld_lines.Goals as goal

pub loop-record-init : goal.loop-record-init
loop-record-init g c =
    let p = λ (d : DueRecord). count_at c.args.self.now.held d.number == 0 in
    let gives = c.into_iter-record-iterator.ensures.into_iter_gives.0 in
    record {
      lines = ap (λ l. map line_view l ++ lines_told p due_record_of c.into_iter-record-iterator.result.rest.items)
          c.new-lines.ensures.items ∙ ap (lines_told p due_record_of) gives;
      datable = subst (λ l. AllByRecursion IsDatable (map due_record_of l)) (sym gives);
    }

pub loop-record-preserved-in_ok-push : goal.loop-record-preserved-in_ok-push
loop-record-preserved-in_ok-push g c =
    let p = λ (d : DueRecord). count_at c.args.self.now.held d.number == 0 in
    let rest = c.next.new.self.rest.items in
    let steps = c.in-Some.ensures.steps.0 in
    record {
      lines =
          ap (λ l. map line_view l ++ lines_told p due_record_of rest) c.in_ok-push.ensures.items
          ∙ line_more line_view due_record_of p c.loop-record.lines.items c.in_ok-line_of.field-0 c.in-Some.record rest
          c.in_ok-line_of.ensures.line (is_zero _ (sym c.count.ensures ∙ c.if-count-eq0.true))
          ∙ ap (λ l. map line_view c.loop-record.lines.items ++ lines_told p due_record_of l) (sym steps)
          ∙ c.loop-record.invariant.lines;
      datable = λ all. (subst (λ l. AllByRecursion IsDatable (map due_record_of l)) steps (c.loop-record.invariant.datable all)).1;
    }

pub loop-record-preserved : goal.loop-record-preserved
loop-record-preserved g c =
    let p = λ (d : DueRecord). count_at c.args.self.now.held d.number == 0 in
    let rest = c.next.new.self.rest.items in
    let steps = c.in-Some.ensures.steps.0 in
    record {
      lines =
          ap (λ l. map line_view c.loop-record.lines.items
          ++ l) (line_none due_record_of p c.in-Some.record rest (is_not_zero _ (λ e.
          c.if-count-eq0.false (c.count.ensures ∙ e))))
          ∙ ap (λ l. map line_view c.loop-record.lines.items ++ lines_told p due_record_of l) (sym steps)
          ∙ c.loop-record.invariant.lines;
      datable = λ all. (subst (λ l. AllByRecursion IsDatable (map due_record_of l)) steps (c.loop-record.invariant.datable all)).1;
    }

pub returns-clause-lines : goal.returns-clause-lines
returns-clause-lines g c =
    let p = λ (d : DueRecord). count_at c.args.self.now.held d.number == 0 in
    let rest = c.loop-record.record-iterator.rest in
    sym (append-nil (map line_view c.loop-record.lines.items))
    ∙ ap (λ l. map line_view c.loop-record.lines.items
    ++ lines_told p due_record_of l) (sym (no_items rest.items rest.len rest.ok.0 c.in-None.ensures.steps.0))
    ∙ c.loop-record.invariant.lines

pub returns-in_err-line_of-clause-lost : goal.returns-in_err-line_of-clause-lost
returns-in_err-line_of-clause-lost g c =
    passed_own c.from_residual.result c.in_err-line_of.field-0.0 _ c.from_residual.ensures.1
    (λ all. c.in_err-line_of.ensures.lost (subst (λ l.
    AllByRecursion IsDatable (map due_record_of l)) c.in-Some.ensures.steps.0
    (c.loop-record.invariant.datable all)).0)
