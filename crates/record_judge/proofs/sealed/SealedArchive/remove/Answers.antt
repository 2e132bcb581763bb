use Rattle.std.proofs.Common.{◌≡◌, ◌∙◌, ap, refl, sym, subst, map, length, take, drop, ◌++◌}
use Rattle.std.specs.Vec.{with_items}
use Rattle.std.proofs.lemmas.List.{length-map}
use Rattle.record_archive.specs.Archive.{Record, is_live}
use Rattle.record_judge.specs.Indexes.{IsRecordIndex}
use Rattle.record_judge.specs.Sealed.{marked, record_view}
use Rattle.record_judge.proofs.IndexLemmas.{still_live}
use Rattle.record_judge.proofs.SealedLemmas.{removed, kept_marked, shared_view, written_back}
use Rattle.record_judge.proofs.sealed.SealedArchive.remove.Goals as goal

pub returns-clause-archive : goal.returns-clause-archive
returns-clause-archive c = λ kept.
    let items = c.args.self.now.records.items in
    let here = subst (IsRecordIndex c.args.self.now.record_index) (sym c.as_mut_slice.ensures.value) kept.records in
    let rows = c.mark_destroyed.ensures.rows here ∙ ap (map (marked c.args.number)) c.as_mut_slice.ensures.value in
    let long = ap length rows ∙ length-map items (marked c.args.number) in
    let marks = written_back c.args.self.now.records.len items c.mark_destroyed.new.rows c.args.self.now.records.ok.0 long ∙ rows in
    let index = subst (IsRecordIndex c.mark_destroyed.new.index) rows (c.mark_destroyed.ensures.index here) in
    removed c.args.self.now (record c.args.self.now {
      messages = c.leave_message.new.rows;
      records = with_items c.args.self.now.records c.mark_destroyed.new.rows;
      record_index = c.mark_destroyed.new.index;
      message_index = c.leave_message.new.index;
    }) c.args.number c.args.message c.has_live-shared.result
    (c.has_live-shared.ensures ∙ still_live c.mark_destroyed.new.index items c.args.number c.args.message index
    ∙ shared_view c.args.number c.args.message items) marks (c.leave_message.ensures.rows kept.messages) refl refl

pub returns-clause-kept : goal.returns-clause-kept
returns-clause-kept c = λ kept.
    let items = c.args.self.now.records.items in
    let here = subst (IsRecordIndex c.args.self.now.record_index) (sym c.as_mut_slice.ensures.value) kept.records in
    let rows = c.mark_destroyed.ensures.rows here ∙ ap (map (marked c.args.number)) c.as_mut_slice.ensures.value in
    let long = ap length rows ∙ length-map items (marked c.args.number) in
    let marks = written_back c.args.self.now.records.len items c.mark_destroyed.new.rows c.args.self.now.records.ok.0 long ∙ rows in
    let index = subst (IsRecordIndex c.mark_destroyed.new.index) rows (c.mark_destroyed.ensures.index here) in
    kept_marked c.args.number c.args.self.now (record c.args.self.now {
      messages = c.leave_message.new.rows;
      records = with_items c.args.self.now.records c.mark_destroyed.new.rows;
      record_index = c.mark_destroyed.new.index;
      message_index = c.leave_message.new.index;
    }) marks refl (subst (IsRecordIndex c.mark_destroyed.new.index) (sym marks) index) (c.leave_message.ensures.index kept.messages) refl refl kept
