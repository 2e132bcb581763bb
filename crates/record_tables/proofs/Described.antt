-- Each table of the archive, described once, and what a statement on one of them leaves in all.
use Rattle.std.proofs.Common.{◌≡◌, ◌≢◌, ◌==◌, ◌^◌, ◌⊎◌, inl, inr, ℕ, ℤ, zero, suc, List, [], ◌∷◌, map, Bool, true, false, None, Some, refl}
use Rattle.std.proofs.Common.{sym, ap, subst, ◌∙◌, cond, if◌then◌else◌, slice_get, find, nat_le, unwrap_or, option_map, bytes_eq, true≢false}
use Rattle.std.specs.List.{AllByRecursion, flat_map, filter_map}
use Rattle.std.proofs.lemmas.Slice.Eq.{bytes_eq-Decides}
use Rattle.sqlite.specs.declared.types.Value.TheVariants.{Int}
use Rattle.sqlite.specs.Order.{Row}
use Rattle.sqlite.specs.Table.{Table}
use Rattle.sqlite.specs.Schema.{Schema}
use Rattle.sqlite.specs.Tree.{Trees, rowid}
use Rattle.sqlite.specs.Effect.{Database}
use Rattle.sqlite_rules.specs.Action.{work_for}
use Rattle.sqlite_schema.specs.declared.schema.Keys.{Keys}
use Rattle.sqlite_sql.specs.Program.{overlay}
use Rattle.sqlite_keyed.specs.Keyed.{IsKeyedBy}
use Rattle.sqlite_schema.specs.Names.{table_named}
use Rattle.record_tables.specs.Tables.{Stands, IsArchiveSchema, in_tree, message_table}
use Rattle.record_tables.specs.Tables.{record_table, hold_table, meta_table, class_table, schedule_table, due_table}
use Rattle.record_items.specs.Items.{Message, Record}
use Rattle.record_tables.specs.Rows.{Tables, message_key, message_row, record_key, record_row, Hold, hold_key, hold_row}
use Rattle.record_tables.specs.Rows.{Setting, setting_key, setting_row, Class, class_key, class_row, Schedule}
use Rattle.record_tables.specs.Changes.{IsBeside, Rests, RestBeside}
use Rattle.record_tables.specs.Rows.{schedule_key, schedule_row, Due, due_key, due_row, Stores, StoresKeyed, AreKeyed}
use Rattle.record_tables.proofs.WriteLemmas.{IsQuiet}

-- a table of the database by its name, the tree of its rows, and these rows
pub record Kept : Type 0 where
  pub name : List ℕ
  pub tree : ℕ
  pub rows : List Row

abbrev pub kept_in : {schema : Schema} {table : Table} → Stands schema table → List Row → Kept
kept_in {schema} {table} is rows = record { name = table.name; tree = is.tree; rows = rows }

-- the tree and the rows of each table
abbrev pub kept : (schema : Schema) → IsArchiveSchema schema → Tables → List Kept
kept schema has t = kept_in has.common.messages (map message_row t.messages) ∷ kept_in has.common.records (map record_row t.records)
    ∷ kept_in has.common.holds (map hold_row t.holds) ∷ kept_in has.common.settings (map setting_row t.settings)
    ∷ kept_in has.common.classes (map class_row t.classes) ∷ kept_in has.schedules (map schedule_row t.schedules)
    ∷ kept_in has.dues (map due_row t.dues) ∷ []

abbrev pub AreIn : Trees → List Kept → Type 0
AreIn trees ks = AllByRecursion (λ (k : Kept). trees k.tree ≡ k.rows) ks

-- these rows in place of those of the table of this name
abbrev pub put_in : List ℕ → List Row → Kept → Kept
put_in name rows k = record { name = k.name; tree = k.tree; rows = if bytes_eq k.name name then rows else k.rows }

-- the table of this name has these rows, and the trees of the others are as they were
abbrev pub IsPut : List ℕ → List Row → (old new : Trees) → List Kept → Type 0
IsPut name rows old new ks = AllByRecursion (λ (k : Kept). (k.name ≡ name → new k.tree ≡ rows) × (k.name ≢ name → new k.tree ≡ old k.tree)) ks

names_tell : (a b : List ℕ) → ((bytes_eq a b ≡ true) × (a ≡ b)) ⊎ ((bytes_eq a b ≡ false) × (a ≢ b))
names_tell a b = go (bytes_eq a b) refl
  where
    go : (c : Bool) → bytes_eq a b ≡ c → ((c ≡ true) × (a ≡ b)) ⊎ ((c ≡ false) × (a ≢ b))
    go true e = inl (refl, (bytes_eq-Decides a b).0 e)
    go false e = inr (refl, λ h. true≢false (sym ((bytes_eq-Decides a b).1 h) ∙ e))

put_all_in : (old new : Trees) (name : List ℕ) (rows : List Row) (ks : List Kept) → IsPut name rows old new ks
    → AreIn old ks → AreIn new (map (put_in name rows) ks)
put_all_in old new name rows [] is was = tt
put_all_in old new name rows (k ∷ ks) is was = (one (names_tell k.name name), put_all_in old new name rows ks is.1 was.1)
  where
    one : ((bytes_eq k.name name ≡ true) × (k.name ≡ name)) ⊎ ((bytes_eq k.name name ≡ false) × (k.name ≢ name))
        → new k.tree ≡ (if bytes_eq k.name name then rows else k.rows)
    one (inl h) = rw h.0 (is.0.0 h.1)
    one (inr h) = rw h.0 (is.0.1 h.1 ∙ was.0)

-- what stands in the archive of the rows of one table
pub record Described (X : Type 0) : Type 0 where
  pub table : Table
  pub at : (schema : Schema) → IsArchiveSchema schema → Stands schema table
  pub apart : (name : List ℕ) → IsBeside name → name ≢ table.name
  pub key : X → ℤ
  pub to_row : X → Row
  pub keyed : (x : X) → rowid (to_row x) ≡ Int (key x)
  pub uncounted : table.is_counted ≡ false
  pub unstamped : table.stamps ≡ record { places = []; terms = []; formats = [] }
  pub rows : Tables → List X
  pub with_rows : List X → Tables → Tables
  pub stored : (db : Database) (t : Tables) (s : Stores db t) → db.trees (at db.schema s.schema).tree ≡ map to_row (rows t)
  pub ordered : (t : Tables) → AreKeyed t → IsKeyedBy key (rows t)
  pub kept_with : (schema : Schema) (has : IsArchiveSchema schema) (xs : List X) (t : Tables)
      → kept schema has (with_rows xs t) ≡ map (put_in table.name (map to_row xs)) (kept schema has t)
  pub keyed_with : (xs : List X) (t : Tables) → AreKeyed t → IsKeyedBy key xs → AreKeyed (with_rows xs t)

pub all_keyed : (t : Tables) → IsKeyedBy message_key t.messages → IsKeyedBy record_key t.records → IsKeyedBy hold_key t.holds
    → IsKeyedBy setting_key t.settings → IsKeyedBy class_key t.classes → IsKeyedBy schedule_key t.schedules
    → IsKeyedBy due_key t.dues → AreKeyed t
all_keyed t a b c d e f g = record { messages = a; records = b; holds = c; settings = d; classes = e; schedules = f; dues = g }

abbrev pub messages : Described Message
messages = record {
  table = message_table;
  at = λ schema has. has.common.messages;
  apart = λ name h. h.messages;
  key = message_key;
  to_row = message_row;
  keyed = λ x. refl;
  uncounted = refl;
  unstamped = refl;
  rows = λ t. t.messages;
  with_rows = λ xs t. record t { messages = xs };
  stored = λ db t s. s.messages;
  ordered = λ t k. k.messages;
  kept_with = λ schema has xs t. refl;
  keyed_with = λ xs t k up. all_keyed _ up k.records k.holds k.settings k.classes k.schedules k.dues;
}

abbrev pub records : Described Record
records = record {
  table = record_table;
  at = λ schema has. has.common.records;
  apart = λ name h. h.records;
  key = record_key;
  to_row = record_row;
  keyed = λ x. refl;
  uncounted = refl;
  unstamped = refl;
  rows = λ t. t.records;
  with_rows = λ xs t. record t { records = xs };
  stored = λ db t s. s.records;
  ordered = λ t k. k.records;
  kept_with = λ schema has xs t. refl;
  keyed_with = λ xs t k up. all_keyed _ k.messages up k.holds k.settings k.classes k.schedules k.dues;
}

abbrev pub holds : Described Hold
holds = record {
  table = hold_table;
  at = λ schema has. has.common.holds;
  apart = λ name h. h.holds;
  key = hold_key;
  to_row = hold_row;
  keyed = λ x. refl;
  uncounted = refl;
  unstamped = refl;
  rows = λ t. t.holds;
  with_rows = λ xs t. record t { holds = xs };
  stored = λ db t s. s.holds;
  ordered = λ t k. k.holds;
  kept_with = λ schema has xs t. refl;
  keyed_with = λ xs t k up. all_keyed _ k.messages k.records up k.settings k.classes k.schedules k.dues;
}

abbrev pub settings : Described Setting
settings = record {
  table = meta_table;
  at = λ schema has. has.common.settings;
  apart = λ name h. h.settings;
  key = setting_key;
  to_row = setting_row;
  keyed = λ x. refl;
  uncounted = refl;
  unstamped = refl;
  rows = λ t. t.settings;
  with_rows = λ xs t. record t { settings = xs };
  stored = λ db t s. s.settings;
  ordered = λ t k. k.settings;
  kept_with = λ schema has xs t. refl;
  keyed_with = λ xs t k up. all_keyed _ k.messages k.records k.holds up k.classes k.schedules k.dues;
}

abbrev pub classes : Described Class
classes = record {
  table = class_table;
  at = λ schema has. has.common.classes;
  apart = λ name h. h.classes;
  key = class_key;
  to_row = class_row;
  keyed = λ x. refl;
  uncounted = refl;
  unstamped = refl;
  rows = λ t. t.classes;
  with_rows = λ xs t. record t { classes = xs };
  stored = λ db t s. s.classes;
  ordered = λ t k. k.classes;
  kept_with = λ schema has xs t. refl;
  keyed_with = λ xs t k up. all_keyed _ k.messages k.records k.holds k.settings up k.schedules k.dues;
}

abbrev pub schedules : Described Schedule
schedules = record {
  table = schedule_table;
  at = λ schema has. has.schedules;
  apart = λ name h. h.schedules;
  key = schedule_key;
  to_row = schedule_row;
  keyed = λ x. refl;
  uncounted = refl;
  unstamped = refl;
  rows = λ t. t.schedules;
  with_rows = λ xs t. record t { schedules = xs };
  stored = λ db t s. s.schedules;
  ordered = λ t k. k.schedules;
  kept_with = λ schema has xs t. refl;
  keyed_with = λ xs t k up. all_keyed _ k.messages k.records k.holds k.settings k.classes up k.dues;
}

abbrev pub dues : Described Due
dues = record {
  table = due_table;
  at = λ schema has. has.dues;
  apart = λ name h. h.dues;
  key = due_key;
  to_row = due_row;
  keyed = λ x. refl;
  uncounted = refl;
  unstamped = refl;
  rows = λ t. t.dues;
  with_rows = λ xs t. record t { dues = xs };
  stored = λ db t s. s.dues;
  ordered = λ t k. k.dues;
  kept_with = λ schema has xs t. refl;
  keyed_with = λ xs t k up. all_keyed _ k.messages k.records k.holds k.settings k.classes k.schedules up;
}

-- ---- any of them

pub no_works : (schema : Schema) (keys : Keys) (tree : ℕ) (olds news : List Row) (ts : List Table)
    → AllByRecursion (λ (t : Table). t.references ≡ []) ts
    → flat_map (λ (child : Table). filter_map (work_for schema keys 0 tree olds news child) child.references) ts ≡ []
no_works schema keys tree olds news [] h = refl
no_works schema keys tree olds news (t ∷ ts) h = rw h.0 (no_works schema keys tree olds news ts h.1)

module _ {X : Type 0} (d : Described X) (schema : Schema) (has : IsArchiveSchema schema) where
  -- where the table stands, and what its rows are kept as
  abbrev pub place : ℕ
  place = (d.at schema has).place

  abbrev pub tree : ℕ
  tree = (d.at schema has).tree

  abbrev pub table : Table
  table = in_tree tree d.table

  pub quiet : IsQuiet schema place table
  quiet = record {
    listed = (d.at schema has).listed;
    uncounted = d.uncounted;
    unstamped = d.unstamped;
    quiet = λ keys olds news. no_works schema keys tree olds news schema.tables has.apart;
  }

-- a query without tables of its own reads the trees of the database
pub seen : (trees : Trees) (k : ℕ) → overlay trees [] k ≡ trees k
seen trees k = go (nat_le (2 ^ 31) k)
  where
    go : (b : Bool) → unwrap_or (cond b None None) (trees k) ≡ trees k
    go true = refl
    go false = refl

-- tables of different names have different trees
pub trees_differ : (schema : Schema) (t u : Table) (a : Stands schema t) (b : Stands schema u) → t.name ≢ u.name → a.tree ≢ b.tree
trees_differ schema t u a b apart e =
    let one : Some (in_tree a.tree t) ≡ Some (in_tree b.tree u) =
    sym a.own ∙ ap (λ k. find (λ x. x.tree == k) schema.tables) e ∙ b.own in
    apart (ap (λ o. unwrap_or (option_map (λ (x : Table). x.name) o) []) one)

pub at_place : (P : Table → Type 0) (ts : List Table) (i : ℕ) (t : Table) → AllByRecursion P ts → slice_get ts i ≡ Some t → P t
at_place P [] i t all e = absurd cc
at_place P (x ∷ ts) zero t all e = subst P (ap (λ o. unwrap_or o x) e) all.0
at_place P (x ∷ ts) (suc i) t all e = at_place P ts i t all.1 e

-- tables of the same name have the same tree
same_tree : (schema : Schema) (t u : Table) (a : Stands schema t) (b : Stands schema u) → t.name ≡ u.name → a.tree ≡ b.tree
same_tree schema t u a b e =
    let places : a.place ≡ b.place = ap (λ o. unwrap_or o 0) (sym a.named ∙ ap (table_named schema) e ∙ b.named) in
    let one : Some (in_tree a.tree t) ≡ Some (in_tree b.tree u) = sym a.listed ∙ ap (slice_get schema.tables) places ∙ b.listed in
    ap (λ o. unwrap_or (option_map (λ (x : Table). x.tree) o) 0) one

stored_rows : (db : Database) (t : Tables) (s : Stores db t) → AreIn db.trees (kept db.schema s.schema t)
stored_rows db t s = (s.messages, (s.records, (s.holds, (s.settings, (s.classes, (s.schedules, (s.dues, tt)))))))

stores_rows : (schema : Schema) (has : IsArchiveSchema schema) (trees : Trees) (t : Tables) → AreIn trees (kept schema has t)
    → Stores (record { schema = schema; trees = trees }) t
stores_rows schema has trees t h = record {
  schema = has;
  messages = h.0;
  records = h.1.0;
  holds = h.1.1.0;
  settings = h.1.1.1.0;
  classes = h.1.1.1.1.0;
  schedules = h.1.1.1.1.1.0;
  dues = h.1.1.1.1.1.1.0;
}

-- the trees of the tables in this schema are as they were, but for that of one table
abbrev pub Others : Schema → ℕ → (old new : Trees) → Type 0
Others schema k old new = AllByRecursion (λ (t : Table). t.tree ≢ k → new t.tree ≡ old t.tree) schema.tables

-- one table has these rows, and the others stay
pub changed : {X : Type 0} (d : Described X) (old new : Database) (t : Tables) (xs : List X) (s : Stores old t)
    → AreKeyed t → new.schema ≡ old.schema
    → Others old.schema (tree d old.schema s.schema) old.trees new.trees
    → new.trees (tree d old.schema s.schema) ≡ map d.to_row xs
    → IsKeyedBy d.key xs → StoresKeyed new (d.with_rows xs t)
changed {X} d old new t xs s keyed same others rows up =
    let has = s.schema in
    let all = put_all_in old.trees new.trees d.table.name (map d.to_row xs) (kept old.schema has t) (
      put has.common.messages,
      (
        put has.common.records,
        (
          put has.common.holds,
          (
            put has.common.settings,
            (put has.common.classes, (put has.schedules, (put has.dues, tt))),
          ),
        ),
      ),
    ) (stored_rows old t s) in
    let laid = stores_rows old.schema has new.trees (d.with_rows xs t) (subst (AreIn new.trees) (sym (d.kept_with old.schema has xs t)) all) in (
      subst (λ schema. Stores (record { schema = schema; trees = new.trees }) (d.with_rows xs t)) (sym same) laid,
      d.keyed_with xs t keyed up,
    )
  where
    put : {u : Table} (b : Stands old.schema u)
        → (u.name ≡ d.table.name → new.trees b.tree ≡ map d.to_row xs) × (u.name ≢ d.table.name → new.trees b.tree ≡ old.trees b.tree)
    put {u} b = (
      λ e. ap new.trees (same_tree old.schema u d.table b (d.at old.schema s.schema) e) ∙ rows,
      λ apart. at_place (λ (x : Table). x.tree ≢ tree d old.schema s.schema → new.trees x.tree ≡ old.trees x.tree) old.schema.tables b.place
          (in_tree b.tree u) others b.listed (trees_differ old.schema u d.table b (d.at old.schema s.schema) apart),
    )

pub rest_in : (old new : Database) (table : Table) (was : Stands old.schema table) → new.schema ≡ old.schema
    → new.trees was.tree ≡ old.trees was.tree → Rests old new table was
rest_in old new table was same rows =
    let on : (s : Stands new.schema table) × (s.tree ≡ was.tree) =
    subst (λ schema. (s : Stands schema table) × (s.tree ≡ was.tree)) (sym same) (was, refl) in
    record { stands = on.0; rows = ap new.trees on.1 ∙ rows }

-- tables of other names keep their rows
pub rest_beside : {X : Type 0} (d : Described X) (old new : Database) (has : IsArchiveSchema old.schema)
    → new.schema ≡ old.schema → Others old.schema (tree d old.schema has) old.trees new.trees → RestBeside old new
rest_beside d old new has same others = λ table apart was.
    rest_in old new table was same (at_place (λ (x : Table). x.tree ≢ tree d old.schema has → new.trees x.tree ≡ old.trees x.tree)
    old.schema.tables was.place (in_tree was.tree table) others was.listed
    (trees_differ old.schema table d.table was (d.at old.schema has) (d.apart table.name apart)))
