use Rattle.std.proofs.Common.{◌≡◌, ◌<◌, true, false, length, get_or, nat_cmp, sym, ap, ◌∙◌, rules}
use Rattle.std.specs.BTreeSet.{insert_key}
use Rattle.record_rows.proofs.Collected.{collected-skip, collected-more}
use Rattle.record_rows.proofs.archive_rules.live_numbers.Goals as goal
use Rattle.record_rows.proofs.archive_rules.live_numbers.Goals.{then-not-record+in_ok-insert, else-not-record}

pub loop-record-preserved : goal.loop-record-preserved
loop-record-preserved c =
    let h : c.loop-record.record-index < length c.args.records.now = search rules in
    elim c.if-not-record.branch [
      | then-not-record+in_ok-insert w ↦ λ n.
          let live : (get_or c.args.records.now c.loop-record.record-index c.record-item.result).destroyed ≡ false =
          ap (λ r. r.destroyed) (sym c.record-item.is) ∙ w.if-not-record.true in
          let grown : c.if-not-record.live.keys
          ≡ insert_key nat_cmp c.loop-record.live.keys
          (get_or c.args.records.now c.loop-record.record-index c.record-item.result).number =
          ap (λ s. s.keys) w.live-is ∙ w.in_ok-insert.ensures.keys ∙ ap (λ r. insert_key nat_cmp c.loop-record.live.keys r.number) c.record-item.is in
          collected-more (λ r. r.number) c.loop-record.live.keys c.if-not-record.live.keys c.args.records.now
          c.loop-record.record-index c.record-item.result n _ h live grown (c.loop-record.invariant n)
      | else-not-record w ↦ λ n.
          let gone : (get_or c.args.records.now c.loop-record.record-index c.record-item.result).destroyed ≡ true =
          ap (λ r. r.destroyed) (sym c.record-item.is) ∙ w.if-not-record.false in
          let same : c.if-not-record.live.keys ≡ c.loop-record.live.keys = ap (λ s. s.keys) w.live-is in
          rw same (collected-skip (λ r. r.number) c.loop-record.live.keys c.args.records.now c.loop-record.record-index
          c.record-item.result n _ h gone (c.loop-record.invariant n))
    ]
