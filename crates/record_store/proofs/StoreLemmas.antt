-- A store over tables that were just created, and one that was only asked whether its connection is open.
use Rattle.std.proofs.Common.{◌≡◌, ◌⊎◌, inl, inr, ℕ, List, [], false, subst, Result, Ok, Err}
use Rattle.std.specs.Prelude.{IfErr, IfOk}
use Rattle.class_plan.specs.Plans.{first_plan, IsPlan}
use Rattle.sqlite.specs.Store.{Ghosts}
use Rattle.sqlite.specs.Order.{Row}
use Rattle.sqlite.specs.State.{State, HasCleanDisk, IsNotRun, IsRolledBack, IsUnchanged}
use Rattle.sqlite.specs.declared.error.Error.{Error}
use Rattle.sqlite.specs.declared.statement.Statement.{Statement}
use Rattle.sqlite.specs.Held.{Held, state}
use Rattle.record_tables.specs.Tables.{IsFree}
use Rattle.record_tables.specs.Changes.{ClassEntry, Rule}
use Rattle.record_tables.specs.Layouts.{IsLaid}
use Rattle.record_rows.specs.Rules.{rules_of, classes_of}
use Rattle.record_archive.specs.Archive.{empty_archive}
use Rattle.record_adoption.specs.Counts.{count_at}
use Rattle.record_adoption.proofs.LaidLemmas.{stores_laid, empty_is_archive}
use Rattle.record_store.specs.Stores.{StandsFor}
use Rattle.record_store.specs.declared.store.Store.{Store}

pub stands_laid : {S : Type 0} (g : Ghosts S) (old : Held S) (new : Store S) (rules : List Rule)
    (classes : List ClassEntry) → IsPlan first_plan → rules ≡ rules_of first_plan → classes ≡ classes_of first_plan
    → new.conn.in_transaction ≡ false → new.plan ≡ first_plan → new.next ≡ 1 → ((n : ℕ) → count_at new.held n ≡ 0)
    → ((m : ℕ) → count_at new.others m ≡ 0)
    → IsFree (state g old).now.schema
    → (HasCleanDisk (state g new.conn) → IsLaid rules classes (state g old).now (state g new.conn).now)
    → StandsFor g new empty_archive
stands_laid g old new rules classes is same_rules same_classes idle plan next held others empty laid = record {
  idle = idle;
  plan = plan;
  next = next;
  held = held;
  others = others;
  archive = empty_is_archive is;
  rows = λ clean is_open.
      stores_laid (state g old).now (state g new.conn).now empty
      (subst (λ c. IsLaid (rules_of first_plan) c (state g old).now (state g new.conn).now) same_classes (subst (λ r.
      IsLaid r classes (state g old).now (state g new.conn).now) same_rules (laid clean)));
}

-- a statement that is prepared changes nothing, or rolls back
pub prepared_still : (sql : List ℕ) (old new : State) (result : Result Statement Error)
    → IfOk result (λ s. (s.text ≡ sql) × IsUnchanged old new)
    → IfErr result (λ e. (params : Row) → IsNotRun old new sql params e) → IsUnchanged old new ⊎ IsRolledBack old new
unfolding IsNotRun
prepared_still sql old new (Ok s) ok err = inl ok.1
prepared_still sql old new (Err e) ok err = elim (err []) [ inl h ↦ inl h.1 | inr h ↦ inr h.3 ]
