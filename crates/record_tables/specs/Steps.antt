-- What calls on a connection promise about its state before and after. A disk is clean where it gave no error and
-- returned what was written.
use Rattle.std.specs.Prelude.{◌≡◌, ℕ, false, List, Vec, IsTrue, Result, Ok, Err, IfOk, OnOk, OnErr}
use Rattle.std.specs.Borrow.{MutBor}
use Rattle.std.specs.declared.alloc.Global.{Global}
use Rattle.sqlite.specs.Store.{Ghosts}
use Rattle.sqlite.specs.Schema.{Schema}
use Rattle.sqlite.specs.Tree.{Trees}
use Rattle.sqlite.specs.Effect.{Database}
use Rattle.sqlite.specs.Order.{Row}
use Rattle.sqlite.specs.State.{HasCleanDisk, ExecutesInside, IsUnchanged, KeepsCommit, Shown, Survives}
use Rattle.sqlite.specs.Held.{Held, state}
use Rattle.record_tables.specs.Rows.{Tables}
use Rattle.record_tables.specs.Changes.{Puts}
use Rattle.record_tables.specs.declared.fault.Fault.{Fault}
use Rattle.record_tables.specs.declared.fault.Fault.TheVariants.{NoArchive}

module _ {S : Type 0} (g : Ghosts S) (old new : Held S) where
  -- in a transaction
  abbrev pub Inside : Type 0 → Type 0
  Inside P = HasCleanDisk (state g new) → IsTrue (state g old).in_transaction → P

  -- in a transaction that continues, the rows are changed by this change
  abbrev pub PutsIn : (Tables → Type 0) → (Tables → Tables) → Type 0
  PutsIn Allows change = Inside (Puts (state g old) (state g new) Allows change)

  -- in a transaction, the databases before and after are related in this way
  abbrev pub MakesIn : (Database → Database → Type 0) → Type 0
  MakesIn Good = Inside (Good (state g old).now (state g new).now)

  -- where it succeeds in a transaction, the transaction continues, and the rows are changed by this change
  abbrev pub PutsOnOk : {T E : Type 0} → Result T E → (Tables → Type 0) → (Tables → Tables) → Type 0
  PutsOnOk result Allows change = Inside (OnOk result (Puts (state g old) (state g new) Allows change))

  -- where it fails, what was committed stays
  abbrev pub KeepsIn : {T E : Type 0} → Result T E → Type 0
  KeepsIn result = HasCleanDisk (state g new) → IsTrue (state g old).in_transaction →
      OnErr result (KeepsCommit (state g old) (state g new))

  -- a crash leaves nothing of it
  abbrev pub CommitsNothing : Type 0
  CommitsNothing = Survives (state g old) (state g new) (λ _. ⊥)

  -- a crash leaves nothing of a read of tables that are there
  abbrev pub CommitsNothingOf : Type 0 → Type 0
  CommitsNothingOf Are = Survives (state g old) (state g new) (λ _. Are → ⊥)

  -- a crash leaves all of it or nothing
  abbrev pub CommitsWhole : (Database → Database → Type 0) → Type 0
  CommitsWhole Good = Survives (state g old) (state g new) (λ (trees : Trees). (db : Database) ×
      Good (state g old).now db × (trees ≡ db.trees))

  -- where it succeeds, what is seen is committed
  abbrev pub IsCommitted : {T E : Type 0} → Result T E → Type 0
  IsCommitted result = HasCleanDisk (state g new) → OnOk result ((state g new).committed ≡ (state g new).now)

  -- where it succeeds, the databases before and after are related in this way
  abbrev pub Makes : {T E : Type 0} → Result T E → (Database → Database → Type 0) → Type 0
  Makes result Good = HasCleanDisk (state g new) → OnOk result (Good (state g old).now (state g new).now)

  -- where it succeeds, its answer is related in this way to the database before
  abbrev pub Learns : {T E : Type 0} → Result T E → (Database → T → Type 0) → Type 0
  Learns result IsRight = HasCleanDisk (state g new) → IfOk result (IsRight (state g old).now)

  -- where it finds no archive, this holds of the database before
  abbrev pub Rejects : {T : Type 0} → Result T Fault → (Database → Type 0) → Type 0
  Rejects result IsWrong = HasCleanDisk (state g new) → result ≡ Err NoArchive → IsWrong (state g old).now

  -- where it succeeds, its answer is related in this way to the databases before and after
  abbrev pub Relates : {T E : Type 0} → Result T E → (Database → Database → T → Type 0) → Type 0
  Relates result Good = HasCleanDisk (state g new) → IfOk result (Good (state g old).now (state g new).now)

  -- where it succeeds, its rows are those that the query shows
  abbrev pub ShowsOnOk : {E : Type 0} → Result (Vec Row Global) E → (sql : List ℕ) → (params : Row) → Type 0
  ShowsOnOk result sql params = HasCleanDisk (state g new) →
      IfOk result (λ rows. Shown sql params (state g old) (state g new) rows.items)

  -- where it succeeds, the connection was open
  abbrev pub WasOpenOnOk : {T E : Type 0} → Result T E → Type 0
  WasOpenOnOk result = HasCleanDisk (state g new) → OnOk result (IsTrue (state g old).is_open)

  -- where it succeeds, the connection is open afterwards
  abbrev pub IsOpenOnOk : {T E : Type 0} → Result T E → Type 0
  IsOpenOnOk result = HasCleanDisk (state g new) → OnOk result (IsTrue (state g new).is_open)

  -- while the connection is open, the rows and what is committed are as they were before
  abbrev pub IsUntouched : Type 0
  IsUntouched = HasCleanDisk (state g new) → IsTrue (state g new).is_open
      → ((state g new).now ≡ (state g old).now) × ((state g new).committed ≡ (state g old).committed)

  -- where it fails and the connection is still open, the rows are as they were before
  abbrev pub FailsUnchanged : {T E : Type 0} → Result T E → Type 0
  FailsUnchanged result = HasCleanDisk (state g new) → IsTrue (state g new).is_open →
      OnErr result ((state g new).now ≡ (state g old).now)

  -- where it fails and the connection is still open, it was open, and the rows are as they were before
  abbrev pub FailsStill : {T E : Type 0} → Result T E → Type 0
  FailsStill result = HasCleanDisk (state g new) → IsTrue (state g new).is_open →
      OnErr result (IsTrue (state g old).is_open × ((state g new).now ≡ (state g old).now))

  -- the same for a call on tables that are there
  abbrev pub FailsStillOn : {T E : Type 0} → (Schema → Type 0) → Result T E → Type 0
  FailsStillOn Are result = (IsTrue (state g old).is_open → Are (state g old).now.schema) → FailsStill result

  -- where it fails, nothing of it is done
  abbrev pub IsUndone : {T E : Type 0} → Result T E → Type 0
  IsUndone result = HasCleanDisk (state g new) → IsTrue (state g new).is_open
      → OnErr result (((state g new).now ≡ (state g old).now) × ((state g new).committed ≡ (state g old).committed))

  abbrev pub WasOpen : Type 0
  WasOpen = HasCleanDisk (state g new) → IsTrue (state g new).is_open → IsTrue (state g old).is_open

  -- a read of tables that are there changes nothing
  abbrev pub ReadsAlone : {T E : Type 0} → Result T E → Type 0 → Type 0
  ReadsAlone result Are = HasCleanDisk (state g new) → Are → OnOk result (IsUnchanged (state g old) (state g new))

  -- outside a transaction, a read of tables that are there leaves the rows unchanged while the connection is open,
  -- also where the read fails
  abbrev pub IsStill : Type 0 → Type 0
  IsStill Are = old.in_transaction ≡ false → (IsTrue (state g old).is_open → Are) → HasCleanDisk (state g new) →
      IsTrue (state g new).is_open
      → IsTrue (state g old).is_open × ((state g new).now ≡ (state g old).now)

  abbrev pub Falls : Type 0
  Falls = HasCleanDisk (state g new) → HasCleanDisk (state g old)

  abbrev pub IsIdle : Type 0
  IsIdle = old.in_transaction ≡ false → new.in_transaction ≡ false

module _ {S T E : Type 0} (g : Ghosts S) (old new : MutBor (Held S)) (result : Result T E) where
  -- What a call in a transaction promises beside its work: the transaction stays the caller's, a failure keeps what was
  -- committed, and a crash leaves nothing of it.
  pub record StaysInside : Type 0 where
    pub same_reference : new.ghost_name ≡ old.ghost_name
    pub err : KeepsIn g old.now new.now result
    pub survives : CommitsNothing g old.now new.now

  -- where it succeeds, the statement was run with these parameters
  pub record Runs (sql : List ℕ) (params : Row) : Type 0 where
    pub ran : OnOk result (Inside g old.now new.now ((count : ℕ)
        × ExecutesInside 0 sql params (state g old.now) (state g new.now) (Ok count)))
    pub frame : StaysInside

  -- where it succeeds, the rows are changed by this change
  pub record Writes (Allows : Tables → Type 0) (change : Tables → Tables) : Type 0 where
    pub ok : OnOk result (PutsIn g old.now new.now Allows change)
    pub frame : StaysInside
