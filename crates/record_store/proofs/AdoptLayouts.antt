-- Which version's rows a layout may have.
use Rattle.std.proofs.Common.{◌≡◌, ◌⊎◌, inl, inr, subst, List, codes}
use Rattle.sqlite.specs.Schema.{Schema}
use Rattle.sqlite.specs.Store.{Ghosts}
use Rattle.sqlite.specs.Effect.{Database}
use Rattle.sqlite.specs.Held.{Held, state}
use Rattle.record_tables.specs.Tables.{Stands, Lacks, HasNone, IsFirstSchema, IsArchiveSchema, HasCommonTables, due_table}
use Rattle.record_tables.specs.Layout.{IsLayout}
use Rattle.record_tables.specs.declared.layout.Layout.{Layout}
use Rattle.record_tables.specs.declared.layout.Layout.TheVariants.{Empty, First, FirstWithDues, Second}
use Rattle.record_tables.specs.Rows.{Tables}
use Rattle.record_tables.specs.Changes.{ClassEntry, Rule}
use Rattle.record_tables.specs.Reads.{Pair}
use Rattle.record_archive.specs.Archive.{Archive}
use Rattle.record_adoption.specs.Adoption.{Finds, FindsRows, FindsSecond, FindsFirst, FindsNothing, FindsNone, HasNoArchive}
use Rattle.record_adoption.specs.Adoption.{HasRows, HasTypedRows, AreTypedSecond, AreTypedFirst, IsKeyed, ReadsSecond}
use Rattle.record_adoption.specs.Adoption.{ReadsFirst, LeavesArchive, LeavesFound}
use Rattle.record_adoption.specs.Keeping.{StoresArchive}
use Rattle.record_adoption.proofs.AdoptReads.{first_common}
use Rattle.record_adoption.proofs.AdoptSettled.{leaves_weaker}
use Rattle.record_store.specs.Layouts.{HasArchiveTables}

-- what `layout_of` says of a schema
pub record Lays (schema : Schema) (l : Layout) : Type 0 where
  pub is : IsLayout schema l
  pub empty : HasNone schema → l ≡ Empty
  pub first : IsFirstSchema schema → Lacks schema (codes "due_day") → l ≡ First
  pub dated : IsFirstSchema schema → Stands schema due_table → l ≡ FirstWithDues
  pub second : IsArchiveSchema schema → l ≡ Second

pub lays_at : (s t : Schema) (l : Layout) → s ≡ t → IsLayout s l → (HasNone s → l ≡ Empty)
    → (IsFirstSchema s → Lacks s (codes "due_day") → l ≡ First) → (IsFirstSchema s → Stands s due_table → l ≡ FirstWithDues)
    → (IsArchiveSchema s → l ≡ Second) → Lays t l
lays_at s t l e is empty first dated second =
    subst (λ x. Lays x l) e (record { is = is; empty = empty; first = first; dated = dated; second = second })

abbrev pub IsFirst : Layout → Type 0
IsFirst l = (l ≡ First) ⊎ (l ≡ FirstWithDues)

first_not_second : (l : Layout) → IsFirst l → l ≡ Second → ⊥
first_not_second l (inl e) k = cc
first_not_second l (inr e) k = cc

first_not_empty : (l : Layout) → IsFirst l → l ≡ Empty → ⊥
first_not_empty l (inl e) k = cc
first_not_empty l (inr e) k = cc

first_apart : (schema : Schema) (l : Layout) → Lays schema l → IsFirstSchema schema → IsFirst l
first_apart schema l lays is = elim is.dues [ inl lacks ↦ inl (lays.first is lacks) | inr on ↦ inr (lays.dated is on) ]

pub no_rows : (db : Database) (a : Archive) (l : Layout) → Lays db.schema l → l ≡ Empty → FindsRows db a → ⊥
no_rows db a l lays is (inl h) = let k : l ≡ Second = lays.second h.stored.schema in cc
no_rows db a l lays is (inr h) = first_not_empty l (first_apart db.schema l lays h.stored.schema) is

pub second_rows : (db : Database) (a : Archive) (l : Layout) → Lays db.schema l → l ≡ Second → FindsRows db a → FindsSecond db a
second_rows db a l lays is (inl h) = h
second_rows db a l lays is (inr h) = absurd (first_not_second l (first_apart db.schema l lays h.stored.schema) is)

pub first_rows : (db : Database) (a : Archive) (l : Layout) → Lays db.schema l → IsFirst l → FindsRows db a → FindsFirst db a
first_rows db a l lays is (inl h) = absurd (first_not_second l is (lays.second h.stored.schema))
first_rows db a l lays is (inr h) = h

pub finds_nothing : (db : Database) (a : Archive) (l : Layout) → Lays db.schema l → l ≡ Empty → Finds db a → FindsNothing db a
finds_nothing db a l lays is (inl h) = absurd (no_rows db a l lays is h.0)
finds_nothing db a l lays is (inr h) = h

-- the tables are a version's, and an archive is found in their rows in this way alone
pub record IsVersion (db : Database) (FindsIn : Database → Archive → Type 0) : Type 0 where
  pub tables : HasArchiveTables db.schema
  pub named : HasNone db.schema → ⊥
  pub only : (a : Archive) → FindsRows db a → FindsIn db a

pub is_second : (db : Database) (l : Layout) → Lays db.schema l → l ≡ Second → IsVersion db FindsSecond
is_second db l lays is = record {
  tables = inr (inr (subst (IsLayout db.schema) is lays.is));
  named = λ none. let k : l ≡ Empty = lays.empty none in cc;
  only = λ a found. second_rows db a l lays is found;
}

first_tables : (schema : Schema) (l : Layout) → IsLayout schema l → IsFirst l → HasArchiveTables schema
first_tables schema l laid (inl e) = inl (subst (IsLayout schema) e laid)
first_tables schema l laid (inr e) = inr (inl (subst (IsLayout schema) e laid))

pub is_first : (db : Database) (l : Layout) → Lays db.schema l → IsFirst l → IsVersion db FindsFirst
is_first db l lays is = record {
  tables = first_tables db.schema l lays.is is;
  named = λ none. first_not_empty l is (lays.empty none);
  only = λ a found. first_rows db a l lays is found;
}

pub no_tables : (schema : Schema) (l : Layout) → Lays schema l → l ≡ Empty → HasNone schema
no_tables schema l lays is = subst (IsLayout schema) is lays.is

module _ (db : Database) (FindsIn : Database → Archive → Type 0) (version : IsVersion db FindsIn) where
  finds_so : (a : Archive) → Finds db a → FindsIn db a × IsKeyed a
  finds_so a (inl h) = (version.only a h.0, h.1)
  finds_so a (inr h) = absurd (version.named h.0.none)

  pub finds_none : FindsNone FindsIn db → HasNoArchive db
  finds_none none = (version.named, λ a rows archive. none a (version.only a rows) archive)

-- what a crash leaves keeps each archive that is found
pub leaves_version : {S : Type 0} (g : Ghosts S) (old new : Held S) (FindsIn : Database → Archive → Type 0)
    → IsVersion (state g old).now FindsIn → LeavesFound g old new FindsIn IsKeyed → LeavesArchive g old new (Finds (state g old).now)
leaves_version g old new FindsIn version left =
    leaves_weaker g old new (λ (a : Archive). FindsIn (state g old).now a × IsKeyed a) (Finds (state g old).now)
    (finds_so (state g old).now FindsIn version) left

-- ---- rows of any kind

pub no_reads : (db : Database) (l : Layout) → Lays db.schema l → l ≡ Empty → HasRows db → ⊥
no_reads db l lays is (inl h) = let k : l ≡ Second = lays.second h.4.stored.schema in cc
no_reads db l lays is (inr h) = first_not_empty l (first_apart db.schema l lays h.3.stored.schema) is

pub second_reads : (db : Database) (l : Layout) → Lays db.schema l → l ≡ Second → HasRows db → (t : Tables)
    × (ps : List Pair) × (rs : List Rule) × (cs : List ClassEntry) × ReadsSecond db t ps rs cs
second_reads db l lays is (inl h) = h
second_reads db l lays is (inr h) = absurd (first_not_second l (first_apart db.schema l lays h.3.stored.schema) is)

pub first_reads : (db : Database) (l : Layout) → Lays db.schema l → IsFirst l → HasRows db → (t : Tables)
    × (ps : List Pair) × (cs : List ClassEntry) × ReadsFirst db t ps cs
first_reads db l lays is (inl h) = absurd (first_not_second l is (lays.second h.4.stored.schema))
first_reads db l lays is (inr h) = h

-- ---- rows whose numbers and flags may be any integers

pub typed_empty : (db : Database) (l : Layout) → Lays db.schema l → l ≡ Empty → HasTypedRows db
typed_empty db l lays is = record {
  second = λ has. absurd (let k : l ≡ Second = lays.second has in cc);
  first = λ has. absurd (first_not_empty l (first_apart db.schema l lays has) is);
}

pub typed_second : (db : Database) (l : Layout) → Lays db.schema l → l ≡ Second → (IsArchiveSchema db.schema → AreTypedSecond db) → HasTypedRows db
typed_second db l lays is typed = record { second = typed; first = λ has. absurd (first_not_second l (first_apart db.schema l lays has) is) }

pub typed_first : (db : Database) (l : Layout) → Lays db.schema l → IsFirst l → (HasCommonTables db.schema → AreTypedFirst db) → HasTypedRows db
typed_first db l lays is typed = record {
  second = λ has. absurd (first_not_second l is (lays.second has));
  first =
      λ has. typed (first_common db.schema has);
}

-- ---- the rows that a store leaves

pub rows_left : (db : Database) (a : Archive) → StoresArchive db a → FindsRows db a
rows_left db a h = inl (record { tables = h.tables; stored = h.stored; keyed = h.keyed; keeps = h.keeps })
