-- What the texts that create and drop tables are compiled to, in any schema in which they may be run.
use Rattle.std.proofs.Common.{◌≡◌, ◌+◌, ℕ, Bool, true, false, cond, List, [], codes, Option, Some, None, Ok, Err}
use Rattle.std.proofs.Common.{refl, sym, ap, subst, ◌∙◌, is_some, unwrap_or}
use Rattle.std.specs.Option.{option_or}
use Rattle.sqlite.specs.Schema.{Schema}
use Rattle.sqlite.specs.Table.{Table}
use Rattle.sqlite.specs.Listing.{understood, reads_listing, listing_schema, if_select}
use Rattle.sqlite.specs.State.{text_of}
use Rattle.sqlite_tied.specs.Compute.{everything}
use Rattle.sqlite_schema.specs.declared.command.Command.{Command}
use Rattle.sqlite_schema.specs.declared.command.Command.TheVariants.{CreateTable, CreateIndex, DropTable}
use Rattle.sqlite_ast.specs.declared.CreateTable as written_table
use Rattle.sqlite_ast.specs.declared.CreateIndex as written_index
use Rattle.sqlite_ast.specs.declared.Statement.{Statement}
use Rattle.sqlite_ast.specs.declared.Statement.TheVariants as written
use Rattle.sqlite_syntax.specs.declared.statement.Parsed.{Parsed}
use Rattle.sqlite_resolve.specs.declared.compiled.Compiled.{Compiled}
use Rattle.sqlite_resolve.specs.declared.error.CompileError.{CompileError}
use Rattle.sqlite_resolve.specs.declared.error.CompileError.TheVariants.{NoSuchTable, Exists, Misuse, Unsupported}
use Rattle.sqlite_resolve.specs.Define as define
use Rattle.sqlite_resolve.specs.Lowering.{Checked, and_then, or_else}
use Rattle.sqlite_resolve.specs.Scope.{Name}
use Rattle.sqlite_resolve.specs.Body as body
use Rattle.sqlite_resolve.specs.Compile.{compiled, planned, meaning, timed, returning, command, first, with_command, small}
use Rattle.sqlite_resolve.specs.Compile.{create_table, create_index as index_command, drop_table, creates, is_attached, is_reserved, target, dropped}
use Rattle.sqlite_schema.specs.Names.{table_named, index_named, view_named}
use Rattle.record_tables.specs.Tables.{Stands, due_table, due_index}
use Rattle.record_tables.specs.Tables.{message_table, record_table, hold_table, meta_table, class_table, schedule_table}
use Rattle.record_tables.specs.Layouts.{IsBare, Defines, DefinesIndex}
use Rattle.record_tables.specs.Events.{event_table}
use Rattle.record_tables.proofs.Compiling.{parsed_from}

-- ---- a meaning that is there came of each of its steps

value_of : {A : Type 0} (a b : A) → ◌≡◌ {A = Checked A} (Ok a) (Ok b) → a ≡ b
value_of a b e = cc

abbrev FromStep : {A B : Type 0} → Checked A → (A → Checked B) → B → Type 0
FromStep {A} r f b = (a : A) × (r ≡ Ok a) × (f a ≡ Ok b)

stepped : {A B : Type 0} (r : Checked A) (f : A → Checked B) (b : B) → and_then r f ≡ Ok b → FromStep r f b
stepped (Ok a) f b h = (a, refl, h)
stepped (Err e) f b h = absurd cc

passed : {A : Type 0} (b : Bool) (e : CompileError) (r : Checked A) (a : A) → cond b (Err e) r ≡ Ok a → r ≡ Ok a
passed true e r a h = absurd cc
passed false e r a h = h

found : {A : Type 0} (o : Option A) (e : CompileError) (a : A) → or_else o e ≡ Ok a → o ≡ Some a
found None e a h = absurd cc
found (Some x) e a h = ap (λ y. Some y) (value_of x a h)

-- without IF NOT EXISTS a name that is taken is refused
is_new_now : (name : Name) (same other : Option ℕ) (b : Bool) → creates false name same other ≡ Ok b → b ≡ true
unfolding creates
is_new_now name same other b h = sym (value_of true b (passed (is_some same) Exists (Ok true) b (passed (is_some other) Exists _ b
    (passed (is_reserved name) Misuse _ b h))))

is_new : (if_missing : Bool) (name : Name) (same other : Option ℕ) (b : Bool) → if_missing ≡ false → creates if_missing name same other ≡ Ok b
    → b ≡ true
is_new if_missing name same other b always h =
    is_new_now name same other b (subst (λ c. creates c name same other ≡ Ok b) always h)

module _ (schema : Schema) where
  creates_table : (def : written_table.CreateTable) (c : Command) → def.if_missing ≡ false → create_table schema [] def ≡ Ok c → c ≡ CreateTable
  unfolding create_table
  creates_table def c always h =
      let free = stepped (creates def.if_missing def.name (option_or (table_named schema def.name) (view_named schema def.name)) (index_named schema
      def.name)) _ c (passed (is_attached schema def.name) Unsupported _ c h) in
      let new : free.0 ≡ true = is_new def.if_missing def.name _ _ free.0 always free.1 in
      let made = stepped (define.table [] def) _ c (rw new at free.2) in
      made_by _ made.2
    where
      made_by : (b : Bool) → cond b (Ok CreateTable) (Err Unsupported) ≡ Ok c → c ≡ CreateTable
      made_by true h = sym (value_of CreateTable c h)
      made_by false h = absurd cc

  creates_index : (def : written_index.CreateIndex) (c : Command) → def.if_missing ≡ false → index_command schema def ≡ Ok c
      → (at : ℕ) × (table_named schema def.table ≡ Some at) × (c ≡ CreateIndex at)
  unfolding index_command
  creates_index def c always h =
      let on = stepped (target schema def.table) _ c (passed (is_reserved def.table) Misuse _ c h) in
      let table = stepped (body.table_at schema on.0) _ c on.2 in
      let free = stepped (creates def.if_missing def.name (index_named schema def.name) (option_or (table_named schema def.name) (view_named schema
      def.name))) _ c table.2 in
      let new : free.0 ≡ true = is_new def.if_missing def.name _ _ free.0 always free.1 in
      let made = stepped (define.index table.0 def) _ c (rw new at free.2) in
      (on.0, found (table_named schema def.table) NoSuchTable on.0 on.1, sym (value_of (CreateIndex on.0) c made.2))

  drops_table : (name : Name) (c : Command) → drop_table schema false name ≡ Ok c
      → (at : ℕ) × (table_named schema name ≡ Some at) × (c ≡ DropTable at)
  unfolding drop_table
  drops_table name c h = by_place (table_named schema name) refl
      (passed (is_some (view_named schema name)) Misuse _ c (passed (is_reserved name) Misuse _ c h))
    where
      by_place : (o : Option ℕ) → table_named schema name ≡ o → dropped DropTable NoSuchTable false o ≡ Ok c
          → (at : ℕ) × (table_named schema name ≡ Some at) × (c ≡ DropTable at)
      by_place None e h = absurd cc
      by_place (Some at) e h = (at, e, sym (value_of (DropTable at) c h))

-- ---- from the text to the command

-- a statement, and no more, that is no query and takes no moment of time
record IsText (text : List ℕ) : Type 0 where
  read : first text ≡ Ok (parsed_from text)
  bare : (parsed_from text).formats ≡ []
  unlisted : if_select (compiled listing_schema text) ≡ Err NoSuchTable
  whole : text_of text (with_command (parsed_from text) ([], (CreateTable, None))) ≡ text

compiled_as : (schema : Schema) (text : List ℕ) (c : Compiled) → if_select (compiled listing_schema text) ≡ Err NoSuchTable
    → understood schema text ≡ Ok c → compiled schema text ≡ Ok c
unfolding understood
compiled_as schema text c none h = by (reads_listing schema text) h
  where
    by : (b : Bool) → cond b (if_select (compiled listing_schema text)) (compiled schema text) ≡ Ok c → compiled schema text ≡ Ok c
    by true h = absurd (let e = sym none ∙ h in cc)
    by false h = h

meaning_is : (schema : Schema) (p : Parsed) (s : Statement) (base : ℕ) → p.statement ≡ s → p.formats ≡ []
    → meaning schema p base ≡ and_then (returning schema base s) (λ shown. and_then (command schema [] base s) (λ k. Ok (k, shown)))
unfolding meaning
meaning_is schema p s base is bare = λ i.
    and_then (returning schema base (is i)) (λ shown. and_then (command schema (bare i) base (is i)) (λ k. Ok (k, shown)))

planned_is : (schema : Schema) (p : Parsed) (s : Statement) → p.statement ≡ s → p.formats ≡ [] → timed schema [] s ≡ []
    → planned schema p ≡ and_then (meaning schema p (small p.names + 0)) (λ found. Ok ([], found))
unfolding planned
planned_is schema p s is bare untimed =
    let times : timed schema p.formats p.statement ≡ [] = (λ i. timed schema (bare i) (is i)) ∙ untimed in
    ap (λ f. and_then (meaning schema p (small p.names + small f)) (λ found. Ok (f, found))) times

-- what is run for a text is its statement's command
meant : (schema : Schema) (text : List ℕ) (s : Statement) (c : Compiled) → IsText text → (parsed_from text).statement ≡ s
    → timed schema [] s ≡ [] → returning schema (small (parsed_from text).names + 0) s ≡ Ok None → understood schema text ≡ Ok c
    → (command schema [] (small (parsed_from text).names + 0) s ≡ Ok c.command) × IsBare text c
unfolding compiled
meant schema text s c t is untimed silent h =
    let p = parsed_from text in
    let base = small p.names + 0 in
    let read = stepped (first text) (λ q. and_then (planned schema q) (λ plan. Ok (with_command q plan))) c
    (compiled_as schema text c t.unlisted h) in
    let plan = stepped (planned schema p) (λ plan. Ok (with_command p plan)) c
    (subst (λ q. and_then (planned schema q) (λ plan. Ok (with_command q plan)) ≡ Ok c) (value_of read.0 p (sym read.1 ∙ t.read)) read.2) in
    let found = stepped (meaning schema p base) (λ found. Ok ([], found)) plan.0
    (sym (planned_is schema p s is t.bare untimed) ∙ plan.1) in
    let shown = stepped (returning schema base s) (λ shown. and_then (command schema [] base s) (λ k. Ok (k, shown))) found.0
    (sym (meaning_is schema p s base is t.bare) ∙ found.1) in
    let none : shown.0 ≡ None = value_of shown.0 None (sym shown.1 ∙ silent) in
    let made = stepped (command schema [] base s) (λ k. Ok (k, shown.0)) found.0 shown.2 in
    let c_is : with_command p ([], (made.0, shown.0)) ≡ c =
    ap (λ f. with_command p ([], f)) (value_of (made.0, shown.0) found.0 made.2)
    ∙ ap (with_command p) (value_of ([], found.0) plan.0 found.2) ∙ value_of (with_command p plan.0) c plan.2 in (
      made.1 ∙ ap (λ (k : Compiled). Ok k.command) c_is,
      record {
        shows = ap (λ (k : Compiled). k.returning) (sym c_is) ∙ none;
        timeless = ap (λ (k : Compiled). k.formats) (sym c_is);
        whole = ap (text_of text) (sym c_is) ∙ t.whole;
      },
    )

abbrev IsTableText : Statement → Type 0
IsTableText (written.CreateTable def) = def.if_missing ≡ false
IsTableText _ = ⊥

abbrev IsIndexText : Table → Statement → Type 0
IsIndexText table (written.CreateIndex def) = (def.if_missing ≡ false) × (def.table ≡ table.name)
IsIndexText table _ = ⊥

abbrev IsDropText : Table → Statement → Type 0
IsDropText table (written.DropTable if_exists name) = (if_exists ≡ false) × (name ≡ table.name)
IsDropText table _ = ⊥

module _ (text : List ℕ) (t : IsText text) where
  makes_table : IsTableText (parsed_from text).statement → (schema : Schema) (c : Compiled) → understood schema text ≡ Ok c
      → (c.command ≡ CreateTable) × IsBare text c
  unfolding timed returning command
  makes_table is schema c h = go (parsed_from text).statement refl is
    where
      go : (s : Statement) → (parsed_from text).statement ≡ s → IsTableText s → (c.command ≡ CreateTable) × IsBare text c
      go (written.CreateTable def) e always =
          let it = meant schema text (written.CreateTable def) c t e refl refl h in
          (creates_table schema def c.command always it.0, it.1)
      go _ e always = absurd always

  makes_index : (table : Table) → IsIndexText table (parsed_from text).statement → (schema : Schema) (on : Stands schema table) (c : Compiled)
      → understood schema text ≡ Ok c → (c.command ≡ CreateIndex on.place) × IsBare text c
  unfolding timed returning command
  makes_index table is schema on c h = go (parsed_from text).statement refl is
    where
      go : (s : Statement) → (parsed_from text).statement ≡ s → IsIndexText table s → (c.command ≡ CreateIndex on.place) × IsBare text c
      go (written.CreateIndex def) e always =
          let it = meant schema text (written.CreateIndex def) c t e refl refl h in
          let made = creates_index schema def c.command always.0 it.0 in
          let place : made.0 ≡ on.place = ap (λ o. unwrap_or o 0) (sym made.1 ∙ ap (table_named schema) always.1 ∙ on.named) in
          (made.2 ∙ ap (λ k. CreateIndex k) place, it.1)
      go _ e always = absurd always

  drops : (table : Table) → IsDropText table (parsed_from text).statement → (schema : Schema) (on : Stands schema table) (c : Compiled)
      → understood schema text ≡ Ok c → (c.command ≡ DropTable on.place) × IsBare text c
  unfolding timed returning command
  drops table is schema on c h = go (parsed_from text).statement refl is
    where
      go : (s : Statement) → (parsed_from text).statement ≡ s → IsDropText table s → (c.command ≡ DropTable on.place) × IsBare text c
      go (written.DropTable if_exists name) e always =
          let it = meant schema text (written.DropTable if_exists name) c t e refl refl h in
          let made = drops_table schema name c.command (ap (λ b. drop_table schema b name) (sym always.0) ∙ it.0) in
          let place : made.0 ≡ on.place = ap (λ o. unwrap_or o 0) (sym made.1 ∙ ap (table_named schema) always.1 ∙ on.named) in
          (made.2 ∙ ap (λ k. DropTable k) place, it.1)
      go _ e always = absurd always

-- ---- our texts

abbrev pub create_message : List ℕ
create_message = codes "CREATE TABLE message (number INTEGER PRIMARY KEY, body BLOB NOT NULL) STRICT"

abbrev pub create_record : List ℕ
create_record =
    codes "CREATE TABLE record (number INTEGER PRIMARY KEY, message INTEGER NOT NULL, path TEXT NOT NULL, day INTEGER NOT NULL, destroyed INTEGER NOT NULL) STRICT"

abbrev pub create_hold : List ℕ
create_hold = codes "CREATE TABLE hold (name TEXT NOT NULL, record INTEGER NOT NULL, PRIMARY KEY (name, record)) STRICT"

abbrev pub create_meta : List ℕ
create_meta = codes "CREATE TABLE meta (key TEXT NOT NULL PRIMARY KEY, value TEXT NOT NULL) STRICT"

abbrev pub create_class : List ℕ
create_class = codes "CREATE TABLE class (path TEXT NOT NULL PRIMARY KEY, is_open INTEGER NOT NULL, schedule TEXT) STRICT"

abbrev pub create_schedule : List ℕ
create_schedule =
    codes "CREATE TABLE schedule (path TEXT NOT NULL PRIMARY KEY, count INTEGER NOT NULL, unit INTEGER NOT NULL, action INTEGER NOT NULL, year_end INTEGER NOT NULL) STRICT"

abbrev pub create_due : List ℕ
create_due = codes "CREATE TABLE due_day (record INTEGER PRIMARY KEY, day INTEGER NOT NULL) STRICT"

abbrev pub create_index : List ℕ
create_index = codes "CREATE INDEX due_by_day ON due_day (day, record)"

abbrev pub drop_dues : List ℕ
drop_dues = codes "DROP TABLE due_day"

abbrev pub create_event : List ℕ
create_event = codes "CREATE TABLE event (number INTEGER PRIMARY KEY, line TEXT NOT NULL, mark TEXT NOT NULL) STRICT"

pub defines_message : Defines create_message message_table
unfolding listing_schema everything
defines_message = record {
  creates = makes_table create_message (record { read = refl; bare = refl; unlisted = refl; whole = refl }) refl;
  defined = refl;
  apart = refl;
}

pub defines_record : Defines create_record record_table
unfolding listing_schema everything
defines_record = record {
  creates = makes_table create_record (record { read = refl; bare = refl; unlisted = refl; whole = refl }) refl;
  defined = refl;
  apart = refl;
}

pub defines_hold : Defines create_hold hold_table
unfolding listing_schema everything
defines_hold = record {
  creates = makes_table create_hold (record { read = refl; bare = refl; unlisted = refl; whole = refl }) refl;
  defined = refl;
  apart = refl;
}

pub defines_meta : Defines create_meta meta_table
unfolding listing_schema everything
defines_meta = record {
  creates = makes_table create_meta (record { read = refl; bare = refl; unlisted = refl; whole = refl }) refl;
  defined = refl;
  apart = refl;
}

pub defines_class : Defines create_class class_table
unfolding listing_schema everything
defines_class = record {
  creates = makes_table create_class (record { read = refl; bare = refl; unlisted = refl; whole = refl }) refl;
  defined = refl;
  apart = refl;
}

pub defines_schedule : Defines create_schedule schedule_table
unfolding listing_schema everything
defines_schedule = record {
  creates = makes_table create_schedule (record { read = refl; bare = refl; unlisted = refl; whole = refl }) refl;
  defined = refl;
  apart = refl;
}

pub defines_due : Defines create_due due_table
unfolding listing_schema everything
defines_due = record {
  creates = makes_table create_due (record { read = refl; bare = refl; unlisted = refl; whole = refl }) refl;
  defined = refl;
  apart = refl;
}

pub defines_event : Defines create_event event_table
unfolding listing_schema everything
defines_event = record {
  creates = makes_table create_event (record { read = refl; bare = refl; unlisted = refl; whole = refl }) refl;
  defined = refl;
  apart = refl;
}

pub defines_index : DefinesIndex create_index due_table due_index
unfolding listing_schema everything
defines_index = record {
  creates = makes_index create_index (record { read = refl; bare = refl; unlisted = refl; whole = refl }) due_table (refl, refl);
  defined = λ tree. refl;
}

pub drops_due_table : (schema : Schema) (on : Stands schema due_table) (c : Compiled) → understood schema drop_dues ≡ Ok c
    → (c.command ≡ DropTable on.place) × IsBare drop_dues c
unfolding listing_schema everything
drops_due_table = drops drop_dues (record { read = refl; bare = refl; unlisted = refl; whole = refl }) due_table (refl, refl)
