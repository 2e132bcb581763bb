use Rattle.std.proofs.Common.{◌≡◌, take, IsTrue}
use Rattle.sqlite.specs.State.{HasCleanDisk, Survives}
use Rattle.sqlite.specs.Held.{state}
use Rattle.record_tables.specs.Rows.{Tables, Stores, AreKeyed}
use Rattle.record_tables.specs.Changes.{Puts}
use Rattle.record_tables.specs.Reads.{numbers_of}
use Rattle.record_reads.specs.Lookups.{Looks}
use Rattle.record_copy.specs.Messages.{KeepsRows}
use Rattle.record_copy.specs.NewRows.{HasNoMessages, with_messages}
use Rattle.record_copy.proofs.messages.copy_messages.Given as goal

abbrev pub invariant-loop-number : goal.invariant-loop-number
invariant-loop-number g l =
    let old = state g.T.Store l.fn.tx.conn.now in
    let now = state g.T.Store l.tx.conn.now in
    record {
      same_reference : l.tx.conn.ghost_name ≡ l.fn.tx.conn.ghost_name;
      looks : Looks g.S.Store l.fn.from l.from;
      kept : KeepsRows g.S.Store l.fn.from l.from;
      puts : HasCleanDisk (state g.S.Store l.from) → (s : Tables) → Stores (state g.S.Store l.fn.from).now s → AreKeyed s
          → l.numbers ≡ numbers_of s → HasCleanDisk now → IsTrue old.in_transaction
          → Puts old now HasNoMessages (with_messages (take l.number-index s.messages));
      survives : Survives old now (λ _. ⊥);
    }
