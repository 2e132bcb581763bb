-- What a database holds of an archive when a store is opened over it, and what is read from it.
use Rattle.std.specs.Prelude.{◌<◌, ◌^◌, ◌≡◌, ◌⊎◌, ℕ, ◌-◌, false, List, [], ◌∷◌, map, codes, IsPermutation}
use Rattle.std.specs.List.{AllByRecursion}
use Rattle.sqlite.specs.Store.{Ghosts}
use Rattle.sqlite.specs.Schema.{Schema}
use Rattle.sqlite.specs.Tree.{Trees}
use Rattle.sqlite.specs.Effect.{Database, IsDatabase}
use Rattle.sqlite.specs.State.{Survives}
use Rattle.sqlite.specs.Held.{Held, state}
use Rattle.sqlite_keyed.specs.Lists.{sort_by}
use Rattle.sqlite_trees.specs.Tree.{IsAscending}
use Rattle.class_plan.specs.Plans.{Listing, IsPlan}
use Rattle.class_plan.specs.Texts.{text_of}
use Rattle.record_tables.specs.Tables.{HasNone, IsFree, IsFirstSchema, IsArchiveSchema}
use Rattle.record_archive.specs.Archive.{Message, Record, Archive, Hold, IsArchive, empty_archive, is_hold, next_number}
use Rattle.record_tables.specs.Rows.{Tables, Due, Stores, StoresFirst, StoresCommon, AreKeyed}
use Rattle.record_tables.specs.Changes.{ClassEntry, Rule}
use Rattle.record_tables.specs.Reads.{HoldEntry, Pair, class_entry, pair, hold_cmp, AreHolds, ArePairs, AreClassRows, AreRules}
use Rattle.record_tables.specs.Reads.{FitsRecord, FitsNumber, FitsHold, numbers_of}
use Rattle.record_tables.specs.CodeRows.{record_of, hold_entry_of, pair_of, class_entry_of, rule_of, due_of}
use Rattle.record_tables.specs.Steps.{IsIdle, Falls, CommitsNothingOf}
use Rattle.record_reads.specs.Quiet.{IsQuiet}
use Rattle.record_reads.specs.RawRows.{AreTypedMessages, AreTypedRecords, AreTypedHolds, AreTypedClasses, AreTypedSchedules}
use Rattle.record_rows.specs.SoundRows.{AreRows}
use Rattle.record_rows.specs.Rules.{rules_of, classes_of}
use Rattle.record_rows.specs.Texts.{text_row}
use Rattle.record_adoption.specs.Counts.{count_at}
use Rattle.record_adoption.specs.Keeping.{Keeps, StoresArchive, hold_of, hold_count, live_count, due_rows}
use Rattle.record_adoption.specs.declared.common_rows.ArchiveRows.{ArchiveRows}
use Rattle.record_adoption.specs.declared.common_rows.CommonRows.{CommonRows}
use Rattle.record_adoption.specs.declared.overview.Overview.{Overview}
use Rattle.record_adoption.specs.declared.plan_rows.PlanRows.{PlanRows}
use Rattle.record_adoption.specs.declared.version.Contents.{Contents}

-- ---- the rows of a database

-- the rows of version 2 are those of the archive, whatever the due days
pub record FindsSecond (db : Database) (a : Archive) : Type 0 where
  pub tables : Tables
  pub stored : Stores db tables
  pub keyed : AreKeyed tables
  pub keeps : Keeps tables a

-- the settings of version 1: the text of the root's schedule, and the version
abbrev pub first_pairs : List ℕ → List Pair
first_pairs root = record { key = codes "root"; value = root } ∷ record { key = codes "version"; value = codes "1" } ∷ []

-- the rows of version 1, in which schedules are texts
pub record KeepsFirst (t : Tables) (a : Archive) : Type 0 where
  pub messages : t.messages ≡ a.messages
  pub records : t.records ≡ a.records
  pub holds : map hold_of t.holds ≡ a.holds
  pub settings : IsPermutation (map pair t.settings) (first_pairs (text_of a.plan.root))
  pub classes : IsPermutation (map class_entry t.classes) (map text_row a.plan.rows)

-- the rows of version 1 are those of the archive, with any due days or without the table of them
pub record FindsFirst (db : Database) (a : Archive) : Type 0 where
  pub tables : Tables
  pub stored : StoresFirst db tables
  pub keyed : AreKeyed tables
  pub keeps : KeepsFirst tables a

-- the rows of either version are those of the archive
abbrev pub FindsRows : Database → Archive → Type 0
FindsRows db a = FindsSecond db a ⊎ FindsFirst db a

-- each hold is there once
abbrev pub AreOnce : List Hold → Type 0
AreOnce hs = IsAscending (λ (x y : Hold). is_hold x.name x.number y ≡ false) hs

-- the plan is valid, and each hold is there once, as the keys of the table ensure
pub record IsKeyed (a : Archive) : Type 0 where
  pub plan : IsPlan a.plan
  pub once : AreOnce a.holds

-- no table has one of the archive's names, as before the empty archive is created, and none has a foreign key
abbrev pub FindsNothing : Database → Archive → Type 0
FindsNothing db a = IsFree db.schema × (a ≡ empty_archive)

abbrev pub Finds : Database → Archive → Type 0
Finds db a = (FindsRows db a × IsKeyed a) ⊎ FindsNothing db a

-- some table has one of the archive's names, and no archive has these rows
abbrev pub HasNoArchive : Database → Type 0
HasNoArchive db = ¬ HasNone db.schema × ((a : Archive) → FindsRows db a → IsArchive a → ⊥)

-- no archive is found in this way
abbrev pub FindsNone : (Database → Archive → Type 0) → Database → Type 0
FindsNone FindsIn db = (a : Archive) → FindsIn db a → IsArchive a → ⊥

-- the rows are an archive's
pub record HasArchive (db : Database) : Type 0 where
  pub archive : Archive
  pub rows : FindsRows db archive
  pub is : IsArchive archive

-- ---- rows of any kind

-- rows of version 2, whatever they contain; each key is there once
pub record ReadsSecond (db : Database) (t : Tables) (ps : List Pair) (rs : List Rule) (cs : List ClassEntry) : Type 0 where
  pub stored : Stores db t
  pub keyed : AreKeyed t
  pub settings : ArePairs t ps
  pub schedules : AreRules t rs
  pub classes : AreClassRows t cs
  pub holds : AreOnce (map hold_of t.holds)

-- rows of version 1, whatever they contain; each key is there once
pub record ReadsFirst (db : Database) (t : Tables) (ps : List Pair) (cs : List ClassEntry) : Type 0 where
  pub stored : StoresFirst db t
  pub keyed : AreKeyed t
  pub settings : ArePairs t ps
  pub classes : AreClassRows t cs
  pub holds : AreOnce (map hold_of t.holds)

-- this holds of the settings, the schedules and the classes, whatever rows of version 2 the database has
abbrev pub ForSecond : Database → (List Pair → List Rule → List ClassEntry → Type 0) → Type 0
ForSecond db Holds = (t : Tables) (ps : List Pair) (rs : List Rule) (cs : List ClassEntry) →
    ReadsSecond db t ps rs cs → Holds ps rs cs

-- this holds of the settings and the classes, whatever rows of version 1 the database has
abbrev pub ForFirst : Database → (List Pair → List ClassEntry → Type 0) → Type 0
ForFirst db Holds = (t : Tables) (ps : List Pair) (cs : List ClassEntry) → ReadsFirst db t ps cs → Holds ps cs

-- rows of version 2 are an archive's
abbrev pub IsSoundSecond : Database → Type 0
IsSoundSecond db = ForSecond db (λ ps rs cs. HasArchive db)

-- rows of version 1 are an archive's
abbrev pub IsSoundFirst : Database → Type 0
IsSoundFirst db = ForFirst db (λ ps cs. HasArchive db)

-- the rows of either version
abbrev pub HasRows : Database → Type 0
HasRows db =
    ((t : Tables) × (ps : List Pair) × (rs : List Rule) × (cs : List ClassEntry) × ReadsSecond db t ps rs cs)
    ⊎ ((t : Tables) × (ps : List Pair) × (cs : List ClassEntry) × ReadsFirst db t ps cs)

-- ---- rows whose numbers and flags may be any integers

-- messages, records and holds are typed rows, whatever integers they have
pub record AreTypedRows (db : Database) : Type 0 where
  pub messages : AreTypedMessages db
  pub records : AreTypedRecords db
  pub holds : AreTypedHolds db

-- the same of all tables of version 2 but that of due days
pub record AreTypedSecond (db : Database) : Type 0 where
  pub rows : AreTypedRows db
  pub classes : AreTypedClasses db
  pub schedules : AreTypedSchedules db

-- the same of version 1
pub record AreTypedFirst (db : Database) : Type 0 where
  pub rows : AreTypedRows db
  pub classes : AreTypedClasses db

-- the tables of either version, if they are there, have typed rows
pub record HasTypedRows (db : Database) : Type 0 where
  pub second : IsArchiveSchema db.schema → AreTypedSecond db
  pub first : IsFirstSchema db.schema → AreTypedFirst db

-- ---- what is read

abbrev pub named_hold : Hold → HoldEntry
named_hold h = record { name = h.name; number = h.number }

-- the holds by record and then by name
abbrev pub sorted_holds : Archive → List HoldEntry
sorted_holds a = sort_by hold_cmp (map named_hold a.holds)

-- records, numbers of messages, and holds, as they are read
pub record ArchiveLists : Type 0 where
  pub records : List Record
  pub messages : List ℕ
  pub holds : List HoldEntry

-- the same with settings and classes
pub record CommonLists : Type 0 where
  pub archive : ArchiveLists
  pub settings : List Pair
  pub classes : List ClassEntry

abbrev pub lists_of : ArchiveRows → ArchiveLists
lists_of r = record { records = map record_of r.records.items; messages = r.messages.items; holds = map hold_entry_of r.holds.items }

abbrev pub common_lists : CommonRows → CommonLists
common_lists r = record { archive = lists_of r.archive; settings = map pair_of r.settings.items; classes = map class_entry_of r.classes.items }

abbrev pub archive_lists : Archive → ArchiveLists
archive_lists a = record { records = a.records; messages = map (λ (m : Message). m.number) a.messages; holds = sorted_holds a }

-- the archive's, with these settings and classes
abbrev pub lists_with : List Pair → List ClassEntry → Archive → CommonLists
lists_with ps cs a = record { archive = archive_lists a; settings = ps; classes = cs }

-- the tables that both versions have contain these rows; each key is there once
pub record HasLists (db : Database) (l : CommonLists) : Type 0 where
  pub tables : Tables
  pub stored : StoresCommon db tables
  pub keyed : AreKeyed tables
  pub records : tables.records ≡ l.archive.records
  pub messages : numbers_of tables ≡ l.archive.messages
  pub holds : AreHolds tables l.archive.holds
  pub settings : ArePairs tables l.settings
  pub classes : AreClassRows tables l.classes

-- the numbers fit in 32 bits
pub record AreSmall (l : ArchiveLists) : Type 0 where
  pub records : AllByRecursion FitsRecord l.records
  pub messages : AllByRecursion FitsNumber l.messages
  pub holds : AllByRecursion FitsHold l.holds

-- the accepted rows are an archive's, and the numbers of the records fit in 32 bits
pub record IsJudged (p : Listing) (l : ArchiveLists) : Type 0 where
  pub rows : AreRows p l.records l.messages l.holds
  pub small : AllByRecursion (λ (x : Record). x.number < 2 ^ 32) l.records

-- the rows are those of version 1 with the plan
pub record TellsFirst (r : CommonRows) (p : Listing) : Type 0 where
  pub settings : map pair_of r.settings.items ≡ first_pairs (text_of p.root)
  pub classes : map class_entry_of r.classes.items ≡ map text_row p.rows

-- the one setting of version 2
abbrev pub second_pairs : List Pair
second_pairs = record { key = codes "version"; value = codes "2" } ∷ []

-- the rows, with these schedules, are those of version 2 with the plan
pub record TellsSecond (r : CommonRows) (rs : List Rule) (p : Listing) : Type 0 where
  pub settings : map pair_of r.settings.items ≡ second_pairs
  pub rules : rs ≡ rules_of p
  pub classes : map class_entry_of r.classes.items ≡ classes_of p

pub record TellsPlan (r : PlanRows) (p : Listing) : Type 0 where
  pub rules : map rule_of r.rules.items ≡ rules_of p
  pub classes : map class_entry_of r.classes.items ≡ classes_of p

-- what a store over the archive keeps beside the connection, and the due days
pub record IsOverview (f : Overview) (a : Archive) : Type 0 where
  pub plan : f.plan ≡ a.plan
  pub next : f.next ≡ next_number a
  pub held : (n : ℕ) → count_at f.held n ≡ hold_count a n
  pub others : (m : ℕ) → count_at f.others m ≡ live_count a m - 1
  pub dues : map due_of f.dues.items ≡ due_rows a
  pub archive : IsArchive a

-- ---- calls

-- Reads outside a transaction change nothing; where these tables are there, a crash leaves what it might have left
-- before them.
pub record Sees {S : Type 0} (g : Ghosts S) (Are : Schema → Type 0) (old new : Held S) : Type 0 where
  pub idle : IsIdle g old new
  pub falls : Falls g old new
  pub quiet : IsQuiet g old new
  pub survives : CommitsNothingOf g old new (Are (state g old).now.schema)

-- these trees are those of a database that stores each of these archives, and is sound where the one before was
pub record StoresEach (was : Database) (Is : Archive → Type 0) (trees : Trees) : Type 0 where
  pub db : Database
  pub stored : (a : Archive) → Is a → StoresArchive db a
  pub sound : IsDatabase was → (a : Archive) → Is a → IsDatabase db
  pub same : trees ≡ db.trees

-- a crash leaves what it might have left before, or tables that keep each of these archives
abbrev pub LeavesArchive : {S : Type 0} → Ghosts S → (old new : Held S) → (Archive → Type 0) → Type 0
LeavesArchive g old new Is = Survives (state g old) (state g new) (StoresEach (state g old).now Is)

-- the rows of the plan, and what a store keeps beside the connection, are the archive's
abbrev pub TellsContents : Contents → Archive → Type 0
TellsContents r a = TellsPlan r.plan_rows a.plan × IsOverview r.overview a

-- the archive is found in this way, and this is its plan, and these are its due days
abbrev pub FindsWith : (Database → Archive → Type 0) → PlanRows → List Due → Database → Archive → Type 0
FindsWith FindsIn plan dues db a = FindsIn db a × TellsPlan plan a.plan × (dues ≡ due_rows a)

-- each such archive that is found before is stored with these due days
abbrev pub IsSettled : (Database → Archive → Type 0) → PlanRows → List Due → (old new : Database) → Type 0
IsSettled FindsIn plan dues old new = (a : Archive) → FindsWith FindsIn plan dues old a → StoresArchive new a

-- a crash leaves what it might have left before, or tables that keep each archive that is found in this way before
abbrev pub LeavesFound : {S : Type 0} → Ghosts S → (old new : Held S) → (Database → Archive → Type 0) →
    (Archive → Type 0) → Type 0
LeavesFound g old new FindsIn Is = LeavesArchive g old new (λ a. FindsIn (state g old).now a × Is a)
