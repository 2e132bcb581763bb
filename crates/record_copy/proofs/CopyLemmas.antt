-- What a copy makes of the new database.
use Rattle.std.proofs.Common.{◌≡◌, ℤ, ◌+ℤ◌, pos, List, [], ◌∷◌, map, refl, sym, ap, subst, ◌∙◌}
use Rattle.sqlite_keyed.specs.Keyed.{IsKeyedBy}
use Rattle.sqlite.specs.Effect.{Database}
use Rattle.sqlite.specs.State.{State}
use Rattle.class_plan.specs.Plans.{Listing}
use Rattle.record_archive.specs.Archive.{Archive}
use Rattle.record_tables.specs.Rows.{Tables, Hold, AreKeyed, record_key}
use Rattle.record_tables.specs.Changes.{Puts, Turns, IsRevised, with_plan}
use Rattle.record_tables.specs.Reads.{hold_entry}
use Rattle.record_tables.specs.CodeRows.{record_of, hold_entry_of, due_of}
use Rattle.record_tables.proofs.Loops.{puts_then, puts_as}
use Rattle.record_rows.specs.Rules.{rules_of, classes_of}
use Rattle.record_adoption.specs.Keeping.{StoresArchive, hold_of, dues_in}
use Rattle.record_adoption.proofs.LaidLemmas.{listed-numbered, rules-numbered, same_list}
use Rattle.record_copy.specs.NewRows.{HasNoMessages, HasNoHolds, HasNoRows, IsFreshFor, with_messages, with_records, with_holds}
use Rattle.record_copy.specs.NewRows.{holds_from, with_rows_of}
use Rattle.record_copy.specs.Copies.{IsBlank, TellsTables}
use Rattle.record_copy.specs.declared.source.SourceRows.{SourceRows}

kept_holds : (id : ℤ) (hs : List Hold) → map hold_of (holds_from id (map hold_entry hs)) ≡ map hold_of hs
kept_holds id [] = refl
kept_holds id (h ∷ hs) = ap (λ l. hold_of h ∷ l) (kept_holds (id +ℤ pos 1) hs)

no_holds : (hs : List Hold) → map hold_of hs ≡ [] → hs ≡ []
no_holds [] e = refl
no_holds (h ∷ hs) e = absurd cc

-- messages, records and holds are written one after another
pub filled : (old first second new : State) (s : Tables) (rows : SourceRows) (p : Listing) → TellsTables p rows s → AreKeyed s
    → Puts old first HasNoMessages (with_messages s.messages)
    → Puts first second (IsFreshFor (map record_of rows.records.items)) (with_records (map record_of rows.records.items))
    → Puts second new HasNoHolds (with_holds (map hold_entry_of rows.holds.items))
    → Puts old new HasNoRows (with_rows_of s)
filled old first second new s rows p told keyed one two three =
    let rs = map record_of rows.records.items in
    let hs = map hold_entry_of rows.holds.items in
    let up = subst (IsKeyedBy record_key) (sym told.records) keyed.records in
    let begun = puts_as old first HasNoMessages HasNoRows (with_messages s.messages) (with_messages s.messages) (λ t h.
    h.messages) (λ t h. refl) one in
    let more = puts_then old first second HasNoRows (IsFreshFor rs) (with_messages s.messages) (with_records rs) (λ t h.
    (h.records, up)) begun two in
    let whole = puts_then old second new HasNoRows HasNoHolds _ (with_holds hs) (λ t h. h.holds) more three in
    puts_as old new HasNoRows HasNoRows _ (with_rows_of s) (λ t h. h) (λ t h i.
    record t { messages = s.messages; records = told.records i; holds = holds_from (pos 1) (told.holds i) }) whole

pub stores_copied : (p : Listing) (a b : Archive) (from was mid db : Database) (rows : SourceRows) → a.plan ≡ p
    → (s : StoresArchive from a) → StoresArchive was b → IsBlank b → TellsTables p rows s.tables
    → IsRevised (rules_of p) (classes_of p) (map due_of rows.dues.items) was mid
    → Turns mid db HasNoRows (with_rows_of s.tables) → StoresArchive db a
stores_copied p a b from was mid db rows plan s k blank told laid turned =
    let dues = map due_of rows.dues.items in
    let placed = laid.stored k.tables k.stored k.keyed tt in
    let none : HasNoRows (with_plan (rules_of p) (classes_of p) dues k.tables) = record {
      messages = k.keeps.messages ∙ blank.messages;
      records = k.keeps.records ∙ blank.records;
      holds = no_holds k.tables.holds (k.keeps.holds ∙ blank.holds);
    } in
    let made = turned.stored (with_plan (rules_of p) (classes_of p) dues k.tables) placed.0 placed.1 none in
    record {
      tables = with_rows_of s.tables (with_plan (rules_of p) (classes_of p) dues k.tables);
      stored = made.0;
      keyed = made.1;
      keeps = record {
        messages = s.keeps.messages;
        records = s.keeps.records;
        holds = kept_holds (pos 1) s.tables.holds ∙ s.keeps.holds;
        settings = k.keeps.settings;
        classes = same_list _ _ (listed-numbered (pos 1) (classes_of p) ∙ ap classes_of (sym plan));
        schedules = same_list _ _ (rules-numbered (pos 1) (rules_of p) ∙ ap rules_of (sym plan));
      };
      dues = told.dues ∙ ap (λ q. dues_in q s.tables.records) (sym plan) ∙ ap (dues_in a.plan) s.keeps.records;
    }
