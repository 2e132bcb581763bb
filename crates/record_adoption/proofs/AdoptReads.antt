-- Reads that follow one another, and what the rows of a database are.
use Rattle.std.proofs.Common.{◌≡◌, List, [], ◌∷◌, map, inl, inr, Result, Err, IsErrAnd, refl, sym, ap, subst, ◌∙◌, arith, IsPermutation}
use Rattle.std.proofs.lemmas.List.Elements.{All-from_recursion, recursion_from_All}
use Rattle.std.proofs.lemmas.List.Sorted.{IsPermutation-sym, length_permutation, All-permutation}
use Rattle.sqlite.specs.Store.{Ghosts}
use Rattle.sqlite.specs.Schema.{Schema}
use Rattle.sqlite.specs.Effect.{Database}
use Rattle.sqlite.specs.State.{State, HasCleanDisk, IsUnchanged}
use Rattle.sqlite.specs.Held.{Held, state}
use Rattle.sqlite.proofs.StateLemmas.{survives_then, survives_weaker}
use Rattle.class_plan.specs.Plans.{Listing, IsPlan}
use Rattle.class_plan.specs.Texts.{text_of}
use Rattle.record_archive.specs.Archive.{Message, Archive, IsArchive}
use Rattle.record_tables.specs.Tables.{HasCommonTables, IsFirstSchema, IsArchiveSchema}
use Rattle.record_tables.specs.Rows.{Tables, StoresCommon, AreKeyed}
use Rattle.record_tables.specs.Changes.{ClassEntry, Rule}
use Rattle.record_tables.specs.Reads.{Pair, pair, class_entry, rule, ArePairs, AreClassRows}
use Rattle.record_tables.specs.declared.fault.Fault.{Fault}
use Rattle.record_tables.specs.declared.fault.Fault.TheVariants.{NoArchive}
pub use Rattle.record_tables.proofs.DropLemmas.{common_of as stores_common, first_common_of as stores_first_common}
use Rattle.record_reads.proofs.TypedLemmas.{handed_on}
use Rattle.record_rows.specs.Rules.{classes_of, entry_of_row}
use Rattle.record_rows.specs.Texts.{text_row}
use Rattle.record_adoption.specs.Adoption.{FindsSecond, FindsFirst, HasArchive, IsKeyed, AreOnce, ReadsSecond, ReadsFirst, Sees}
use Rattle.record_adoption.specs.Adoption.{ArchiveLists, CommonLists, HasLists, archive_lists, lists_of, common_lists, lists_with}
use Rattle.record_adoption.specs.Adoption.{IsJudged, TellsFirst, TellsSecond, first_pairs, second_pairs}
use Rattle.record_adoption.specs.Keeping.{hold_of}
use Rattle.record_adoption.specs.declared.common_rows.CommonRows.{CommonRows}
use Rattle.record_adoption.proofs.AdoptHolds.{are_named}
use Rattle.record_adoption.proofs.AdoptPlan.{version_paired, classes_listed, first_paired}
use Rattle.record_adoption.proofs.AdoptRows.{judged_archive, judged_as}

-- two steps that change nothing
unchanged_then : (a b c : State) → IsUnchanged a b → IsUnchanged b c → IsUnchanged a c
unchanged_then a b c one two = (
  record {
    was_open = one.0.was_open;
    is_open = two.0.is_open;
    now_is = two.0.now_is ∙ one.0.now_is;
    committed_is = two.0.committed_is ∙ one.0.committed_is;
    mode = two.0.mode ∙ one.0.mode;
  },
  record { changes = two.1.changes ∙ one.1.changes; last_rowid = two.1.last_rowid ∙ one.1.last_rowid },
  two.2 ∙ one.2,
)

-- a read that succeeded: where these tables are there, it changed nothing
pub record Reads {S : Type 0} (g : Ghosts S) (Are : Schema → Type 0) (old new : Held S) : Type 0 where
  pub sees : Sees g Are old new
  pub same : HasCleanDisk (state g new) → Are (state g old).now.schema → IsUnchanged (state g old) (state g new)

module _ {S : Type 0} {g : Ghosts S} {Are : Schema → Type 0} where
  -- the database is as it was
  pub still : {old new : Held S} → Reads g Are old new → HasCleanDisk (state g new) → Are (state g old).now.schema
      → (state g new).now ≡ (state g old).now
  still one clean are = (one.same clean are).0.now_is

  -- what holds of the database before a read holds after it
  pub holds_after : {old new : Held S} (P : Database → Type 0) → Reads g Are old new → HasCleanDisk (state g new)
      → Are (state g old).now.schema → P (state g old).now → P (state g new).now
  holds_after P one clean are h = subst P (sym (still one clean are)) h

  -- the tables are still there
  pub are_after : {old new : Held S} → Reads g Are old new → HasCleanDisk (state g new) → Are (state g old).now.schema → Are (state g new).now.schema
  are_after one clean are = holds_after (λ (db : Database). Are db.schema) one clean are are

  -- what holds of the database after a read, where these tables are there, held before it
  pub held_before : {old new : Held S} (P : Database → Type 0) → Reads g Are old new → HasCleanDisk (state g new)
      → Are (state g old).now.schema → (Are (state g new).now.schema → P (state g new).now) → P (state g old).now
  held_before P one clean are h = subst P (still one clean are) (h (are_after one clean are))

  -- a call after a read
  pub sees_then : {old mid new : Held S} → Reads g Are old mid → Sees g Are mid new → Sees g Are old new
  sees_then {old} {mid} {new} one two = record {
    idle = λ idle. two.idle (one.sees.idle idle);
    falls = λ clean. one.sees.falls (two.falls clean);
    quiet = λ idle clean is_open.
        let last = two.quiet (one.sees.idle idle) clean is_open in
        let first = one.sees.quiet idle (two.falls clean) last.0 in
        (first.0, last.1 ∙ first.1);
    survives =
        survives_then (state g old) (state g mid) (state g new) _ _ _ (λ _ db none. none)
        (λ clean db none are. none (are_after one (two.falls clean) are)) one.sees.survives two.survives;
  }

  -- a read after a read
  pub reads_then : {old mid new : Held S} → Reads g Are old mid → Reads g Are mid new → Reads g Are old new
  reads_then {old} {mid} {new} one two = record {
    sees = sees_then one two.sees;
    same = λ clean are.
        let clean1 = two.sees.falls clean in
        unchanged_then (state g old) (state g mid) (state g new) (one.same clean1 are) (two.same clean (are_after one clean1 are));
  }

  -- what holds under a condition on the schema holds under a stronger one
  pub sees_as : {old new : Held S} (More : Schema → Type 0) → ((schema : Schema) → More schema → Are schema) → Sees g Are old new
      → Sees g More old new
  sees_as {old} {new} More to one = record {
    idle = one.idle;
    falls = one.falls;
    quiet = one.quiet;
    survives = survives_weaker (state g old) (state g new) _ _ (λ _ db none more. none (to (state g old).now.schema more)) one.survives;
  }

pub archive_common : (schema : Schema) → IsArchiveSchema schema → HasCommonTables schema
archive_common schema h = h.common

pub first_common : (schema : Schema) → IsFirstSchema schema → HasCommonTables schema
first_common schema h = h.common

-- where a refusal is passed on as no archive, the call found no archive
pub refused : {T U : Type 0} {r : Result T Fault} {f : Fault} → IsErrAnd r (λ e. e ≡ f) → r ≡ Err NoArchive
    → ◌≡◌ {A = Result U Fault} (Err f) (Err NoArchive)
refused {r} {f} h is = ap (λ e. Err e) (handed_on r f h is)

-- ---- the rows of the tables that both versions have

-- they are the same after a read
pub lists_after : {S : Type 0} {g : Ghosts S} {old new : Held S} {l : CommonLists} → Reads g HasCommonTables old new
    → HasCleanDisk (state g new) → HasLists (state g old).now l → HasLists (state g new).now l
lists_after {l} one clean h = holds_after (λ (db : Database). HasLists db l) one clean h.stored.schema h

-- tables with the messages, records and holds of an archive
listed : (db : Database) (t : Tables) (ps : List Pair) (cs : List ClassEntry) (a : Archive) → StoresCommon db t
    → AreKeyed t → t.messages ≡ a.messages → t.records ≡ a.records → map hold_of t.holds ≡ a.holds → AreOnce a.holds
    → ArePairs t ps → AreClassRows t cs → HasLists db (lists_with ps cs a)
listed db t ps cs a stored keyed messages records holds once pairs classes = record {
  tables = t;
  stored = stored;
  keyed = keyed;
  records = records;
  messages = ap (map (λ (m : Message). m.number)) messages;
  holds = are_named t a holds once;
  settings = pairs;
  classes = classes;
}

-- the rows of an archive in either version
abbrev pub second_lists : Archive → CommonLists
second_lists a = lists_with second_pairs (classes_of a.plan) a

abbrev pub first_lists : Archive → CommonLists
first_lists a = lists_with (first_pairs (text_of a.plan.root)) (map text_row a.plan.rows) a

-- the tables that are found have these rows
pub second_listed : {db : Database} {a : Archive} → FindsSecond db a → IsKeyed a → HasLists db (second_lists a)
second_listed {db} {a} h keyed =
    listed db h.tables second_pairs (classes_of a.plan) a (stores_common db h.tables h.stored) h.keyed h.keeps.messages
    h.keeps.records h.keeps.holds keyed.once (version_paired h.tables h.keeps.settings)
    (classes_listed entry_of_row (λ r. refl) h.tables a.plan keyed.plan h.keeps.classes)

pub first_listed : {db : Database} {a : Archive} → FindsFirst db a → IsKeyed a → HasLists db (first_lists a)
first_listed {db} {a} h keyed =
    listed db h.tables (first_pairs (text_of a.plan.root)) (map text_row a.plan.rows) a (stores_first_common db h.tables h.stored)
    h.keyed h.keeps.messages h.keeps.records h.keeps.holds keyed.once (first_paired h.tables (text_of a.plan.root) h.keeps.settings)
    (classes_listed text_row (λ r. refl) h.tables a.plan keyed.plan h.keeps.classes)

-- so what is read is that of the plan
pub tells_first : {r : CommonRows} (a : Archive) → common_lists r ≡ first_lists a → TellsFirst r a.plan
tells_first a lists = record { settings = ap (λ (l : CommonLists). l.settings) lists; classes = ap (λ (l : CommonLists). l.classes) lists }

-- ---- rows of any kind that are accepted

-- the archive of rows with a plan
abbrev pub archive_of : Tables → Listing → Archive
archive_of t p = record { plan = p; messages = t.messages; records = t.records; holds = map hold_of t.holds }

-- any rows are those of an archive with any plan, but for its settings and classes
pub second_read : {db : Database} {t : Tables} {ps : List Pair} {rs : List Rule} {cs : List ClassEntry} (p : Listing)
    → ReadsSecond db t ps rs cs → HasLists db (lists_with ps cs (archive_of t p))
second_read {db} {t} {ps} {cs} p d =
    listed db t ps cs (archive_of t p) (stores_common db t d.stored) d.keyed refl refl refl d.holds d.settings d.classes

pub first_read : {db : Database} {t : Tables} {ps : List Pair} {cs : List ClassEntry} (p : Listing)
    → ReadsFirst db t ps cs → HasLists db (lists_with ps cs (archive_of t p))
first_read {db} {t} {ps} {cs} p d =
    listed db t ps cs (archive_of t p) (stores_first_common db t d.stored) d.keyed refl refl refl d.holds d.settings d.classes

-- a list with the elements of a list of one is that list
one_left : (xs : List Pair) (p : Pair) → IsPermutation xs (p ∷ []) → xs ≡ p ∷ []
one_left [] p same = absurd (omega (arith, length_permutation [] (p ∷ []) same))
one_left (x ∷ []) p same =
    ap (λ z. z ∷ []) (recursion_from_All (λ z.
    z ≡ p) (x ∷ []) (All-permutation (λ z. z ≡ p) (p ∷ []) (x ∷ []) (IsPermutation-sym (x ∷ []) (p ∷ []) same)
    (All-from_recursion (λ z. z ≡ p) (p ∷ []) (refl, tt)))).0
one_left (x ∷ y ∷ xs) p same = absurd (omega (arith, length_permutation (x ∷ y ∷ xs) (p ∷ []) same))

-- accepted rows with a valid plan are those of an archive
accepted : {l : ArchiveLists} (t : Tables) (p : Listing) → IsPlan p → AreOnce (map hold_of t.holds)
    → l ≡ archive_lists (archive_of t p) → IsJudged p l → IsArchive (archive_of t p)
accepted t p plan once lists are = judged_archive (archive_of t p) (record { plan = plan; once = once }) (judged_as refl lists are)

module _ {db : Database} {t : Tables} {ps : List Pair} {cs : List ClassEntry} {r : CommonRows} {p : Listing} where
  -- what was read is a plan's, and was accepted: the database has an archive
  pub second_sound : {rs rules : List Rule} → ReadsSecond db t ps rs cs → common_lists r ≡ lists_with ps cs (archive_of t p)
      → rules ≡ rs → IsPlan p → TellsSecond r rules p → IsJudged p (lists_of r.archive) → HasArchive db
  second_sound d lists same plan tells are = record {
    archive = archive_of t p;
    rows = inl (record {
      tables = t;
      stored = d.stored;
      keyed = d.keyed;
      keeps = record {
        messages = refl;
        records = refl;
        holds = refl;
        settings = one_left (map pair t.settings) _ (subst (IsPermutation (map pair t.settings))
            (sym (ap (λ (l : CommonLists). l.settings) lists) ∙ tells.settings) d.settings.same);
        classes = subst (IsPermutation (map class_entry t.classes)) (sym (ap (λ (l : CommonLists). l.classes) lists) ∙ tells.classes) d.classes.same;
        schedules = subst (IsPermutation (map rule t.schedules)) (sym same ∙ tells.rules) d.schedules.same;
      };
    });
    is = accepted t p plan d.holds (ap (λ (l : CommonLists). l.archive) lists) are;
  }

  pub first_sound : ReadsFirst db t ps cs → common_lists r ≡ lists_with ps cs (archive_of t p) → IsPlan p
      → TellsFirst r p → IsJudged p (lists_of r.archive) → HasArchive db
  first_sound d lists plan tells are = record {
    archive = archive_of t p;
    rows = inr (record {
      tables = t;
      stored = d.stored;
      keyed = d.keyed;
      keeps = record {
        messages = refl;
        records = refl;
        holds = refl;
        settings = subst (IsPermutation (map pair t.settings)) (sym (ap (λ (l : CommonLists). l.settings) lists) ∙ tells.settings) d.settings.same;
        classes = subst (IsPermutation (map class_entry t.classes)) (sym (ap (λ (l : CommonLists). l.classes) lists) ∙ tells.classes) d.classes.same;
      };
    });
    is = accepted t p plan d.holds (ap (λ (l : CommonLists). l.archive) lists) are;
  }
