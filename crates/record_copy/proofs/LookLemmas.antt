-- Reads that follow one another.
use Rattle.std.proofs.Common.{◌≡◌, inl, false, refl, sym, subst, ◌∙◌, arith, IsTrue}
use Rattle.sqlite.specs.Store.{Ghosts}
use Rattle.sqlite.specs.Effect.{Database}
use Rattle.sqlite.specs.State.{HasCleanDisk}
use Rattle.sqlite.specs.Held.{Held, state}
use Rattle.sqlite.proofs.StateLemmas.{survives_then, survives_weaker}
use Rattle.record_tables.specs.Tables.{IsArchiveSchema, HasCommonTables}
use Rattle.record_tables.specs.Steps.{IsIdle, Falls, CommitsNothingOf}
use Rattle.record_reads.specs.Quiet.{IsQuiet}
use Rattle.record_adoption.proofs.AdoptReads.{archive_common}
use Rattle.record_reads.specs.Lookups.{Looks}
use Rattle.record_copy.specs.Messages.{KeepsRows}

pub looks_itself : {S : Type 0} (g : Ghosts S) (h : Held S) → Looks g h h
looks_itself g h = record {
  idle = λ i. i;
  falls = λ clean. clean;
  still = λ i has clean is_open. (is_open, refl);
  survives = record {
    clean = omega arith;
    shield = λ x. x;
    counts = omega arith;
    limit = refl;
    closes = λ clean is_open. inl is_open;
    crash = λ clean db left. inl left;
  };
}

pub looks_then : {S : Type 0} (g : Ghosts S) (old mid new : Held S) → Looks g old mid → KeepsRows g old mid → Looks g mid new → Looks g old new
looks_then g old mid new one kept two = record {
  idle = λ i. two.idle (one.idle i);
  falls = λ clean. one.falls (two.falls clean);
  still = λ i has clean is_open.
      let last = two.still (one.idle i) (λ was_open.
      let first = one.still i has (two.falls clean) was_open in
      subst (λ (d : Database). IsArchiveSchema d.schema) (sym first.1) (has first.0)) clean is_open in
      let first = one.still i has (two.falls clean) last.0 in
      (first.0, last.1 ∙ first.1);
  survives =
      survives_then (state g old) (state g mid) (state g new) _ _ _ (λ _ db none. none)
      (λ clean db none has. none (subst (λ (d : Database). IsArchiveSchema d.schema) (sym (kept (two.falls clean) has)) has))
      one.survives two.survives;
}

pub kept_then : {S : Type 0} (g : Ghosts S) (old mid new : Held S) → KeepsRows g old mid
    → (HasCleanDisk (state g new) → HasCleanDisk (state g mid)) → KeepsRows g mid new → KeepsRows g old new
kept_then g old mid new one falls two clean has =
    let first = one (falls clean) has in
    two clean (subst (λ (d : Database). IsArchiveSchema d.schema) (sym first) has) ∙ first

-- a look after which the connection is open keeps the rows
pub kept_by_look : {S : Type 0} (g : Ghosts S) (old new : Held S) → old.in_transaction ≡ false → Looks g old new
    → (HasCleanDisk (state g new) → IsTrue (state g new).is_open) → KeepsRows g old new
kept_by_look g old new idle looks opened clean has = (looks.still idle (λ _. has) clean (opened clean)).1

-- a read of the tables that both versions have
pub looks_common : {S : Type 0} (g : Ghosts S) (old new : Held S) → IsIdle g old new → Falls g old new → IsQuiet g old new
    → CommitsNothingOf g old new (HasCommonTables (state g old).now.schema) → Looks g old new
looks_common g old new idle falls quiet survives = record {
  idle = idle;
  falls = falls;
  still = λ i has clean is_open. quiet i clean is_open;
  survives = survives_weaker (state g old) (state g new) _ _ (λ clean db none has.
      none (archive_common (state g old).now.schema has)) survives;
}
