-- A text that is a query changes nothing, whatever tables there are.
use Rattle.std.proofs.Common.{◌≡◌, ◌+◌, ℕ, Bool, true, false, cond, List, Option, Some, None, Result, Ok, Err, IfOk, IsSome, refl, sym, subst}
use Rattle.sqlite_ast.specs.declared.Statement.{Statement}
use Rattle.sqlite_ast.specs.declared.Statement.TheVariants as written
use Rattle.sqlite_syntax.specs.declared.statement.Parsed.{Parsed}
use Rattle.sqlite_schema.specs.declared.command.Command.{Command}
use Rattle.sqlite_schema.specs.declared.command.Returning.{Returning}
use Rattle.sqlite_resolve.specs.declared.compiled.Compiled.{Compiled}
use Rattle.sqlite_resolve.specs.declared.error.CompileError.{CompileError}
use Rattle.sqlite_resolve.specs.declared.error.CompileError.TheVariants.{NoSuchTable}
use Rattle.sqlite_resolve.specs.Lowering.{Checked, and_then}
use Rattle.sqlite_resolve.specs.Scope.{Name}
use Rattle.sqlite_resolve.specs.Compile.{first, compiled, planned, meaning, returning, command, timed, small, with_command}
use Rattle.sqlite.specs.Schema.{Schema}
use Rattle.sqlite.specs.Order.{Row}
use Rattle.sqlite.specs.Store.{Ghosts}
use Rattle.sqlite.specs.Listing.{understood, reads_listing, listing_schema, if_select, is_select as selects}
use Rattle.sqlite.specs.Given.{Returns}
use Rattle.sqlite.specs.State.{State, Shown, ShowsRows, IsUnchanged, Survives, CommitsShowing}
use Rattle.sqlite.specs.Held.{Held, state}
use Rattle.sqlite.proofs.StateLemmas.{survives_weaker}
use Rattle.record_tables.specs.Steps.{CommitsNothing, CommitsNothingOf, Falls, IsIdle}
use Rattle.record_reads.specs.Lookups.{Looks}
use Rattle.record_reads.specs.Quiet.{IsQuiet}
use Rattle.record_reads.specs.Selects.{is_select, begins_select, IsSelect}

-- ---- a query has no RETURNING

abbrev Found : Type 0
Found = Command × Option Returning

abbrev Plan : Type 0
Plan = List Name × Found

abbrev FindsNone : Found → Type 0
FindsNone found = found.1 ≡ None

abbrev PlansNone : Plan → Type 0
PlansNone plan = plan.1.1 ≡ None

abbrev ReturnsNone : Compiled → Type 0
ReturnsNone c = c.returning ≡ None

then_ok : {A B : Type 0} (r : Checked A) (f : A → Checked B) (P : B → Type 0) → ((a : A) → r ≡ Ok a → IfOk (f a) P) → IfOk (and_then r f) P
then_ok (Ok a) f P h = h a refl
then_ok (Err e) f P h = tt

returning_none : (schema : Schema) (base : ℕ) (s : Statement) → is_select s ≡ true → returning schema base s ≡ Ok None
unfolding returning
returning_none schema base (written.Select s) is = refl
returning_none schema base s is = absurd cc

meaning_none : (schema : Schema) (p : Parsed) (base : ℕ) → is_select p.statement ≡ true → IfOk (meaning schema p base) FindsNone
unfolding meaning
meaning_none schema p base is =
    then_ok (returning schema base p.statement) (λ shown. and_then (command schema p.formats base p.statement) (λ c. Ok (c, shown))) FindsNone
    (λ shown e. then_ok (command schema p.formats base p.statement) (λ c. Ok (c, shown)) FindsNone (λ c _. let none =
    returning_none schema base p.statement is in cc))

planned_none : (schema : Schema) (p : Parsed) → is_select p.statement ≡ true → IfOk (planned schema p) PlansNone
unfolding planned
planned_none schema p is =
    let formats = timed schema p.formats p.statement in
    let base = small p.names + small formats in
    then_ok (meaning schema p base) (λ found. Ok (formats, found)) PlansNone
    (λ found e. subst (λ (r : Checked Found). IfOk r FindsNone) e (meaning_none schema p base is))

compiled_none : (schema : Schema) (text : List ℕ) → IsSelect text → IfOk (compiled schema text) ReturnsNone
unfolding compiled
compiled_none schema text is =
    then_ok (first text) (λ p. and_then (planned schema p) (λ plan. Ok (with_command p plan))) ReturnsNone
    (λ p e. then_ok (planned schema p) (λ plan. Ok (with_command p plan)) ReturnsNone
    (λ plan made. subst (λ (r : Checked Plan). IfOk r PlansNone) made (planned_none schema p (subst (λ r. begins_select r ≡ true) e is))))

selected_none : (r : Result Compiled CompileError) → IfOk r ReturnsNone → IfOk (if_select r) ReturnsNone
selected_none (Ok c) h = go (selects c.command)
  where
    go : (b : Bool) → IfOk (cond b (Ok c) (Err NoSuchTable)) ReturnsNone
    go true = h
    go false = tt
selected_none (Err e) h = tt

understood_none : (schema : Schema) (text : List ℕ) → IsSelect text → IfOk (understood schema text) ReturnsNone
unfolding understood
understood_none schema text is = go (reads_listing schema text)
  where
    go : (b : Bool) → IfOk (cond b (if_select (compiled listing_schema text)) (compiled schema text)) ReturnsNone
    go true = selected_none (compiled listing_schema text) (compiled_none listing_schema text is)
    go false = compiled_none schema text is

never_returns : (r : Result Compiled CompileError) → IfOk r ReturnsNone → Returns r → ⊥
never_returns (Ok c) none some = let it = rw none at some in cc
never_returns (Err e) none some = some

quiet_text : (text : List ℕ) → IsSelect text → (schema : Schema) → Returns (understood schema text) → ⊥
quiet_text text is schema = never_returns (understood schema text) (understood_none schema text is)

-- ---- so it writes nothing

no_returning : (o : Option Returning) → (IsSome o → ⊥) → o ≡ None
no_returning None none = refl
no_returning (Some r) none = absurd (none refl)

pub reads_quietly : (sql : List ℕ) (params : Row) (old new : State) (rows : List Row) → IsSelect sql → Shown sql params old new rows
    → IsUnchanged old new
unfolding Shown
reads_quietly sql params old new rows is h =
    let none = no_returning h.0.returning (λ some. quiet_text sql is old.now.schema (subst Returns (sym h.1.is) some)) in
    (subst (ShowsRows old new sql h.0 _ rows) none h.2).3

pub reads_nothing : (sql : List ℕ) (params : Row) (old new : State) → IsSelect sql → Survives old new (CommitsShowing sql params old)
    → Survives old new (λ _. ⊥)
unfolding CommitsShowing
reads_nothing sql params old new is =
    survives_weaker old new _ _ (λ _ db h. quiet_text sql is old.now.schema (subst Returns (sym h.1.is) h.2))

module _ {S : Type 0} (g : Ghosts S) (old new : Held S) where
  pub nothing_of : (Are : Type 0) → CommitsNothing g old new → CommitsNothingOf g old new Are
  nothing_of Are = survives_weaker (state g old) (state g new) _ _ (λ _ db none has. none)

  pub looks : IsIdle g old new → Falls g old new → IsQuiet g old new → CommitsNothing g old new → Looks g old new
  looks idle falls quiet survives = record { idle = idle; falls = falls; still = λ i _. quiet i; survives = nothing_of _ survives }
