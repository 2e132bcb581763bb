use Rattle.std.proofs.Common.{inl, inr}
use Rattle.std.proofs.lemmas.Bool.{cases_Bool}
use Rattle.std.proofs.Math.Logic.{∥∥₁_map}
use Rattle.sqlite.specs.Files.{over_files, file_state}
use Rattle.desk_commands.specs.Standing.{opening}
use Rattle.record_store.specs.Stores.{TreesKeep}
use Rattle.record_files.specs.Files.{KeepsAt}
use Rattle.record_files.proofs.ClosingLemmas.{by_count, by_fault}
use Rattle.session_files.proofs.SessionLemmas.{keeps_left, leads_to, left_in}
use Rattle.session_files.proofs.UnservedLemmas.{holds_still}
use Rattle.session_files.proofs.session.serve_connection.Goals as goal

pub returns-in-Ok-clause-served : goal.returns-in-Ok-clause-served
returns-in-Ok-clause-served g c honest heard said =
    let ended = c.close-files in
    let clean = ended.ensures.clean honest in
    let it = c.in-Ok.ensures.served clean heard said in
    (it.0, λ a found. leads_to g.D.Disk c.in-Ok.conn a _ _ (it.1 a found) clean (ended.ensures.holds honest))

pub returns-in-Ok-clause-done : goal.returns-in-Ok-clause-done
returns-in-Ok-clause-done g c honest =
    let ended = c.close-files in
    let clean = ended.ensures.clean honest in
    let it = c.in-Ok.ensures.done clean in
    (it.0, λ a found. leads_to g.D.Disk c.in-Ok.conn a _ _ (it.1 a found) clean (ended.ensures.holds honest))

pub returns-in-Ok-clause-left : goal.returns-in-Ok-clause-left
returns-in-Ok-clause-left g c honest =
    let ended = c.close-files in
    let it = c.in-Ok.ensures.left (ended.ensures.clean honest) in (
      it.0,
      λ a found.
          let e = it.1 a found in
          record {
            to = e.to;
            reached = e.reached;
            kept = λ image may. ∥∥₁_map (ended.ensures.leaves honest image may) (λ left.
                left_in TreesKeep (λ i b. KeepsAt b i) left.0 image (λ b kept. keeps_left image left.0 b left.2 kept)
                (opening a) e.reached.items e.reached.answers (e.kept left.0 left.1));
          },
    )

pub returns-in-Ok-clause-shut : goal.returns-in-Ok-clause-shut
returns-in-Ok-clause-shut g c honest =
    let ended = c.close-files in
    let it = c.in-Ok.ensures.left (ended.ensures.clean honest) in
    let last = c.in-Ok.conn in (
      it.0,
      λ a found.
          elim (cases_Bool (file_state last).is_open) [
            | inl on ↦ by_fault g.D.Disk (file_state last).faults ended.result.0 ended.result.1 (ended.ensures.cause honest on)
            | inr closed ↦ by_count g.D.Disk (file_state last).faults ended.result.0 ended.result.1 (ended.ensures.shut honest closed)
                ((it.1 a found).shut closed)
          ],
    )

pub returns-in-Err-clause-refused : goal.returns-in-Err-clause-refused
returns-in-Err-clause-refused g c honest =
    let clean = c.leave.ensures.clean honest in
    (c.in-Err.ensures.still_clean clean, c.in-Err.ensures.refused clean)

pub returns-in-Err-clause-kept : goal.returns-in-Err-clause-kept
returns-in-Err-clause-kept g c honest a found image may =
    holds_still over_files c.args.conn c.in-Err.conn a image c.in-Err.ensures.kept (c.leave.ensures.clean honest) found
    (c.leave.ensures.leaves honest image may)
