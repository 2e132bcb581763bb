-- The tables of a schema stand as before beside one more, and where another is left out.
use Rattle.std.proofs.Common.{◌≡◌, ◌<◌, ◌^◌, ◌==◌, ◌||◌, ℕ, Bool, true, false, not, List, [], ◌∷◌, ◌++◌, length, Option, Some, None}
use Rattle.std.proofs.Common.{slice_get, find, filter, is_some, unwrap_or, refl, sym, ap, subst, ◌∙◌, arith}
use Rattle.std.proofs.lemmas.Bool.{ne_eqb, eq-eqb}
use Rattle.std.specs.List.{AllByRecursion, position_from}
use Rattle.sqlite.specs.Table.{Table}
use Rattle.sqlite.specs.Schema.{Schema}
use Rattle.sqlite.specs.Effect.{Database, IsDatabase}
use Rattle.sqlite.specs.Change.{next_tree}
use Rattle.sqlite_catalog.specs.Change.{KeepsRows, without_table}
use Rattle.sqlite_catalog.specs.Calls.{CreatesTable}
use Rattle.sqlite_catalog.specs.Listing.{IsTableRow}
use Rattle.sqlite_catalog.proofs.ListFacts.{find_within}
use Rattle.sqlite_catalog.proofs.StepLemmas.{same_itself, table_below}
use Rattle.sqlite_schema.specs.Names.{same_name, table_named, index_named, view_named}
use Rattle.sqlite_trees.proofs.ListLemmas.{all-slice_get, all-filter, all-append}
use Rattle.record_tables.specs.Tables.{in_tree, Stands, IsApart}
use Rattle.record_tables.specs.Layouts.{Rests, StandsEmpty}
use Rattle.record_tables.proofs.Placed.{slice_get_longer, slice_get_last, zip_at, find_longer, find_last}
use Rattle.record_tables.proofs.Placed.{placed_longer, placed_last, placed_within}

-- ---- trees

-- the trees of a sound database are small
pub small_tree : (db : Database) (k : ℕ) (t : Table) → IsDatabase db → slice_get db.schema.tables k ≡ Some t → t.tree < 2 ^ 31
small_tree db k t sound listed =
    let row = zip_at IsTableRow _ db.schema.tables k t sound.lists.listed.tables listed in
    omega (arith, row.1.described.low)

-- ---- the tables stand as before

pub rests_then : (a b c : Database) (t : Table) (was : Stands a.schema t) (one : Rests a b t was) → Rests b c t one.stands → Rests a c t was
rests_then a b c t was one two = record { stands = two.stands; rows = two.rows ∙ one.rows }

-- no table came or went
abbrev pub stands_in : (old new : Schema) (t : Table) → Stands old t → new.tables ≡ old.tables → Stands new t
stands_in old new t was same = record {
  place = was.place;
  tree = was.tree;
  named = ap (position_from (λ (u : Table). same_name u.name t.name) 0) same ∙ was.named;
  listed = ap (λ ts. slice_get ts was.place) same ∙ was.listed;
  own = ap (find (λ (u : Table). u.tree == was.tree)) same ∙ was.own;
  small = was.small;
}

pub rests_in : (old new : Database) (t : Table) (was : Stands old.schema t) → new.schema.tables ≡ old.schema.tables
    → KeepsRows old.schema.tables old.trees new.trees → Rests old new t was
rests_in old new t was same kept = record {
  stands = stands_in old.schema new.schema t was same;
  rows = all-slice_get (λ (u : Table). new.trees u.tree ≡ old.trees u.tree) old.schema.tables was.place (in_tree was.tree t) was.listed kept;
}

-- ---- one table more

-- the table is there after the others, which keep their rows
pub record Adds (old new : Database) (table : Table) : Type 0 where
  pub tables : new.schema.tables ≡ old.schema.tables ++ in_tree (next_tree old.schema) table ∷ []
  pub free : table_named old.schema table.name ≡ None
  pub empty : new.trees (next_tree old.schema) ≡ []
  pub others : KeepsRows old.schema.tables old.trees new.trees

unnamed : (o : Option ℕ) (b c : Bool) → (is_some o || b || c) ≡ false → o ≡ None
unnamed None b c h = refl
unnamed (Some n) b c h = absurd cc

pub adds : (old new : Database) (text : List ℕ) (c : CreatesTable old.schema text old.trees new.schema new.trees) → Adds old new c.table
adds old new text c = record {
  tables = ap (λ (s : Schema). s.tables) c.is;
  free = unnamed (table_named old.schema c.table.name) (is_some (index_named old.schema c.table.name))
      (is_some (view_named old.schema c.table.name)) c.free;
  empty = c.empty;
  others = c.others;
}

abbrev last_of : Database → Table → Table
last_of old table = in_tree (next_tree old.schema) table

-- what stood in one database stands in another, whose tables begin with the same
pub record Extends (old new : Database) : Type 0 where
  pub rests : (t : Table) (was : Stands old.schema t) → Rests old new t was
  pub apart : IsApart old.schema → IsApart new.schema
  pub listed : (k : ℕ) (t : Table) → slice_get old.schema.tables k ≡ Some t → slice_get new.schema.tables k ≡ Some t

pub extends_itself : (db : Database) → Extends db db
extends_itself db = record { rests = λ t was. record { stands = was; rows = refl }; apart = λ h. h; listed = λ k t h. h }

pub extends_more : (old new : Database) (table : Table) → Adds old new table → table.references ≡ [] → Extends old new
extends_more old new table a plain = record { rests = λ t was. rests t was; apart = λ h. apart h; listed = λ k t h. listed k t h }
  where
    listed : (k : ℕ) (t : Table) → slice_get old.schema.tables k ≡ Some t → slice_get new.schema.tables k ≡ Some t
    listed k t h = ap (λ ts. slice_get ts k) a.tables ∙ slice_get_longer old.schema.tables (last_of old table ∷ []) k t h

    apart : IsApart old.schema → IsApart new.schema
    apart h = subst (AllByRecursion (λ (t : Table). t.references ≡ [])) (sym a.tables)
        (all-append (λ (t : Table). t.references ≡ []) old.schema.tables (last_of old table ∷ []) h (plain, tt))

    rests : (t : Table) (was : Stands old.schema t) → Rests old new t was
    rests t was = record {
      stands = record {
        place = was.place;
        tree = was.tree;
        named = ap (position_from (λ (u : Table). same_name u.name t.name) 0) a.tables
            ∙ placed_longer (λ (u : Table). same_name u.name t.name) old.schema.tables (last_of old table ∷ []) 0 was.place was.named;
        listed = listed was.place (in_tree was.tree t) was.listed;
        own = ap (find (λ (u : Table). u.tree == was.tree)) a.tables
            ∙ find_longer (λ (u : Table). u.tree == was.tree) old.schema.tables (last_of old table ∷ []) (in_tree was.tree t) was.own;
        small = was.small;
      };
      rows = all-slice_get (λ (u : Table). new.trees u.tree ≡ old.trees u.tree) old.schema.tables was.place (in_tree was.tree t) was.listed a.others;
    }

-- the new table is the last
pub last_listed : (old new : Database) (table : Table) → Adds old new table
    → slice_get new.schema.tables (length old.schema.tables) ≡ Some (in_tree (next_tree old.schema) table)
last_listed old new table a = ap (λ ts. slice_get ts (length old.schema.tables)) a.tables
    ∙ slice_get_last old.schema.tables (in_tree (next_tree old.schema) table)

pub stands_empty : (old new : Database) (table : Table) → Adds old new table → next_tree old.schema < 2 ^ 31 → StandsEmpty new table
stands_empty old new table a small = record {
  stands = record {
    place = length old.schema.tables;
    tree = next_tree old.schema;
    named = ap (position_from (λ (u : Table). same_name u.name table.name) 0) a.tables
        ∙ placed_last (λ (u : Table). same_name u.name table.name) old.schema.tables (last_of old table) 0 a.free
        (same_itself table.name) ∙ ap (λ n. Some n) (omega arith);
    listed = last_listed old new table a;
    own = ap (find (λ (u : Table). u.tree == next_tree old.schema)) a.tables
        ∙ find_last (λ (u : Table). u.tree == next_tree old.schema) old.schema.tables (last_of old table)
        (λ t has. ne_eqb t.tree (next_tree old.schema) (λ same. omega (arith, table_below old.schema t has, same)))
        (eq-eqb (next_tree old.schema) (next_tree old.schema) refl);
    small = small;
  };
  empty = a.empty;
}

-- ---- one table less

-- two tables of other names have their rows in other trees
apart_trees : (schema : Schema) (t u : Table) (a : Stands schema t) (b : Stands schema u) → (t.name ≡ u.name → ⊥) → a.tree ≡ b.tree → ⊥
apart_trees schema t u a b names same =
    let one : Some (in_tree a.tree t) ≡ Some (in_tree b.tree u) =
    sym a.own ∙ ap (λ k. find (λ (x : Table). x.tree == k) schema.tables) same ∙ b.own in
    names (ap (λ o. (unwrap_or o t).name) one)

abbrev stays : ℕ → Table → Bool
stays tree u = not (u.tree == tree)

pub rests_without : (old new : Database) (gone : Table) (dropped : Stands old.schema gone)
    → new.schema ≡ without_table old.schema dropped.tree → KeepsRows new.schema.tables old.trees new.trees
    → (t : Table) (was : Stands old.schema t) → (t.name ≡ gone.name → ⊥) → Rests old new t was
rests_without old new gone dropped is kept t was names = record {
  stands = record {
    place = at.0;
    tree = was.tree;
    named = ap (λ s. table_named s t.name) is ∙ at.1;
    listed = listed;
    own = ap (λ (s : Schema). find (λ (u : Table). u.tree == was.tree) s.tables) is
        ∙ find_within (λ (u : Table). u.tree == was.tree) (stays dropped.tree) old.schema.tables
        (λ u has left. other u left) ∙ was.own;
    small = was.small;
  };
  rows = all-slice_get (λ (u : Table). new.trees u.tree ≡ old.trees u.tree) new.schema.tables at.0 (in_tree was.tree t) listed kept;
}
  where
    differs : was.tree ≡ dropped.tree → ⊥
    differs = apart_trees old.schema t gone was dropped names

    other : (u : Table) → stays dropped.tree u ≡ false → (u.tree == was.tree) ≡ false
    other u left = ne_eqb u.tree was.tree (λ same. let e = ne_eqb u.tree dropped.tree (λ k. differs (sym same ∙ k)) in
        let on : stays dropped.tree u ≡ true = ap not e in cc)

    at : (j : ℕ) × (table_named (without_table old.schema dropped.tree) t.name ≡ Some j)
        × (slice_get (filter (stays dropped.tree) old.schema.tables) j ≡ Some (in_tree was.tree t))
    at =
        let found = placed_within (λ (u : Table). same_name u.name t.name) (stays dropped.tree) old.schema.tables (in_tree was.tree t) 0 0
        was.place (was.named ∙ ap (λ n. Some n) (omega arith)) was.listed (ap not (ne_eqb was.tree dropped.tree differs)) in
        (found.0, found.1 ∙ ap (λ n. Some n) (omega arith), found.2)

    listed : slice_get new.schema.tables at.0 ≡ Some (in_tree was.tree t)
    listed = ap (λ (s : Schema). slice_get s.tables at.0) is ∙ at.2

pub apart_without : (schema after : Schema) (tree : ℕ) → after ≡ without_table schema tree → IsApart schema → IsApart after
apart_without schema after tree is h = subst IsApart (sym is)
    (all-filter (λ (t : Table). t.references ≡ []) (stays tree) schema.tables h)
