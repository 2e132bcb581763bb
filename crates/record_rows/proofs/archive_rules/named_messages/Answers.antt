use Rattle.std.proofs.Common.{◌≡◌, ◌<◌, true, false, length, get_or, nat_cmp, sym, ap, ◌∙◌, rules}
use Rattle.std.specs.BTreeSet.{insert_key}
use Rattle.record_rows.proofs.Collected.{collected-skip, collected-more}
use Rattle.record_rows.proofs.archive_rules.named_messages.Goals as goal
use Rattle.record_rows.proofs.archive_rules.named_messages.Goals.{then-not-record+in_ok-insert, else-not-record}

pub loop-record-preserved : goal.loop-record-preserved
loop-record-preserved c =
    let h : c.loop-record.record-index < length c.args.records.now = search rules in
    elim c.if-not-record.branch [
      | then-not-record+in_ok-insert w ↦ λ n.
          let live : (get_or c.args.records.now c.loop-record.record-index c.record-item.result).destroyed ≡ false =
          ap (λ r. r.destroyed) (sym c.record-item.is) ∙ w.if-not-record.true in
          let grown : c.if-not-record.named.keys
          ≡ insert_key nat_cmp c.loop-record.named.keys
          (get_or c.args.records.now c.loop-record.record-index c.record-item.result).message =
          ap (λ s. s.keys) w.named-is ∙ w.in_ok-insert.ensures.keys
          ∙ ap (λ r. insert_key nat_cmp c.loop-record.named.keys r.message) c.record-item.is in
          collected-more (λ r. r.message) c.loop-record.named.keys c.if-not-record.named.keys c.args.records.now
          c.loop-record.record-index c.record-item.result n _ h live grown (c.loop-record.invariant n)
      | else-not-record w ↦ λ n.
          let gone : (get_or c.args.records.now c.loop-record.record-index c.record-item.result).destroyed ≡ true =
          ap (λ r. r.destroyed) (sym c.record-item.is) ∙ w.if-not-record.false in
          let same : c.if-not-record.named.keys ≡ c.loop-record.named.keys = ap (λ s. s.keys) w.named-is in
          rw same (collected-skip (λ r. r.message) c.loop-record.named.keys c.args.records.now
          c.loop-record.record-index c.record-item.result n _ h gone (c.loop-record.invariant n))
    ]
