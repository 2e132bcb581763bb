use Rattle.std.proofs.Common.{◌≡◌, ◌+◌, pos, option_map, subst}
use Rattle.std.proofs.lemmas.List.Elements.{All-push}
use Rattle.class_plan.specs.Calendar.{number_of_day, due_on}
use Rattle.record_store.specs.Captures.{HasDueDay}
use Rattle.record_archive.specs.Lines.{line_view}
use Rattle.record_store.proofs.CaptureLemmas.{lines_next}
use Rattle.record_store.proofs.store.Store.new_lines.Goals as goal

pub loop-i-preserved : goal.loop-i-preserved
loop-i-preserved g c =
    let was = c.loop-i.invariant in
    record {
      lines = rw c.in_ok-push.ensures.items (lines_next line_view c.args.self.now.plan c.args.first
          (number_of_day c.args.day) c.as_slice-paths.result.now c.index-paths-i.result c.loop-i.i c.loop-i.lines.items
          c.in_ok-line.line c.loop-i-test.true c.index-paths-i.is was.lines (subst (λ k. line_view c.in_ok-line.line
          ≡ record {
            number = c.args.first + c.loop-i.i;
            path = k;
            due =
                option_map pos (due_on c.args.self.now.plan k (number_of_day c.args.day));
          }) c.as_slice.ensures
          c.in_ok-line.ensures.line));
      days = rw c.in_ok-push.ensures.items (All-push HasDueDay c.loop-i.lines.items c.in_ok-line.line was.days c.in_ok-line.ensures.day);
    }
