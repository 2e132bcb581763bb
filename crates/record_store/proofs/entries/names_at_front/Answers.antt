use Rattle.std.proofs.Common.{◌≡◌, ◌==◌, ◌∙◌, true, arith}
use Rattle.record_tables.specs.CodeRows.{hold_entry_of}
use Rattle.record_store.proofs.EntryLoops.{name_next}
use Rattle.record_store.proofs.entries.names_at_front.Goals as goal

pub loop-hold-preserved : goal.loop-hold-preserved
loop-hold-preserved c =
    let v = c.hold-item.result in
    let on : (v.«record» == c.args.number) ≡ true = grind arith in
    rw c.in_ok-push.ensures.items
    (name_next hold_entry_of
    (λ p. p.items) c.args.number c.args.holds.now c.loop-hold.names.items v c.loop-hold.hold-index c.in_ok-name.name c.loop-hold-test.true
    c.hold-item.is (c.in_ok-name.ensures.items ∙ c.as_slice.ensures.value) on c.loop-hold.invariant)
