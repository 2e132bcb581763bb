use Rattle.std.proofs.Common.{◌∙◌, sym, subst, rules}
use Rattle.std.specs.List.{AllByRecursion}
use Rattle.sqlite.specs.State.{HasCleanDisk}
use Rattle.sqlite.specs.Held.{state}
use Rattle.record_tables.specs.Tables.{HasCommonTables}
use Rattle.record_tables.specs.Reads.{FitsRecord, FitsNumber}
use Rattle.record_reads.specs.RawRows.{AreTypedMessages, AreTypedRecords, AreTypedHolds, AreTypedClasses}
use Rattle.record_adoption.specs.Adoption.{CommonLists}
use Rattle.record_adoption.proofs.AdoptReads.{Reads, reads_then, sees_then, lists_after, held_before, refused}
use Rattle.record_adoption.proofs.common_rows.common_rows.Given.{Over}
use Rattle.record_adoption.proofs.common_rows.common_rows.Goals.{In_ok-settings, In_ok-classes, In_ok-records, In_ok-messages, In_ok-holds}
use Rattle.record_adoption.proofs.common_rows.common_rows.Goals as goal

-- ---- the reads so far

settings_read : (g : Over) (c : In_ok-settings g) → Reads g.S.Store HasCommonTables c.args.conn.now c.settings.new.conn
settings_read g c = record { sees = search rules; same = c.in_ok-settings.ensures.frame.same }

classes_read : (g : Over) (c : In_ok-classes g) → Reads g.S.Store HasCommonTables c.args.conn.now c.classes.new.conn
classes_read g c =
    reads_then (settings_read g (goal.at.In_ok-classes g c).In_ok-settings)
    (record { sees = search rules; same = c.in_ok-classes.ensures.frame.same })

records_read : (g : Over) (c : In_ok-records g) → Reads g.S.Store HasCommonTables c.args.conn.now c.records.new.conn
records_read g c =
    reads_then (classes_read g (goal.at.In_ok-records g c).In_ok-classes)
    (record { sees = search rules; same = c.in_ok-records.ensures.frame.same })

messages_read : (g : Over) (c : In_ok-messages g) → Reads g.S.Store HasCommonTables c.args.conn.now c.message_numbers.new.conn
messages_read g c =
    reads_then (records_read g (goal.at.In_ok-messages g c).In_ok-records)
    (record { sees = search rules; same = c.in_ok-messages.ensures.frame.same })

holds_read : (g : Over) (c : In_ok-holds g) → Reads g.S.Store HasCommonTables c.args.conn.now c.holds.new.conn
holds_read g c =
    reads_then (messages_read g (goal.at.In_ok-holds g c).In_ok-messages)
    (record { sees = search rules; same = c.in_ok-holds.ensures.frame.same })

-- the disk was clean after each read
all_clean : (g : Over) (c : In_ok-holds g) → HasCleanDisk (state g.S.Store c.holds.new.conn)
    → HasCleanDisk (state g.S.Store c.settings.new.conn) × HasCleanDisk (state g.S.Store c.classes.new.conn)
    × HasCleanDisk (state g.S.Store c.records.new.conn) × HasCleanDisk (state g.S.Store c.message_numbers.new.conn)
all_clean g c clean =
    let messages = c.holds.ensures.frame.falls clean in
    let records = c.message_numbers.ensures.frame.falls messages in
    let classes = c.records.ensures.frame.falls records in
    (c.classes.ensures.frame.falls classes, classes, records, messages)

-- ---- what a read that fails leaves

pub returns-in_err-classes-clause-sees : goal.returns-in_err-classes-clause-sees
returns-in_err-classes-clause-sees g c =
    sees_then (settings_read g (goal.at.returns-in_err-classes-clause-sees g c).In_ok-settings) (search rules)

pub returns-in_err-records-clause-sees : goal.returns-in_err-records-clause-sees
returns-in_err-records-clause-sees g c =
    sees_then (classes_read g (goal.at.returns-in_err-records-clause-sees g c).In_ok-classes) (search rules)

pub returns-in_err-messages-clause-sees : goal.returns-in_err-messages-clause-sees
returns-in_err-messages-clause-sees g c =
    sees_then (records_read g (goal.at.returns-in_err-messages-clause-sees g c).In_ok-records) (search rules)

pub returns-in_err-holds-clause-sees : goal.returns-in_err-holds-clause-sees
returns-in_err-holds-clause-sees g c =
    sees_then (messages_read g (goal.at.returns-in_err-holds-clause-sees g c).In_ok-messages) (search rules)

pub returns-in_err-settings-clause-none : goal.returns-in_err-settings-clause-none
returns-in_err-settings-clause-none g c clean is = λ (l : CommonLists) h small.
    c.in_err-settings.ensures.none clean (refused c.from_residual.ensures.1 is) h.tables l.settings h.settings h.stored h.keyed

pub returns-in_err-classes-clause-none : goal.returns-in_err-classes-clause-none
returns-in_err-classes-clause-none g c clean is = λ (l : CommonLists) h small.
    let read = settings_read g (goal.at.returns-in_err-classes-clause-none g c).In_ok-settings in
    let k = lists_after read (c.classes.ensures.frame.falls clean) h in
    c.in_err-classes.ensures.none clean (refused c.from_residual-in_err-classes.ensures.1 is) k.tables l.classes k.classes k.stored k.keyed

pub returns-in_err-records-clause-none : goal.returns-in_err-records-clause-none
returns-in_err-records-clause-none g c clean is = λ (l : CommonLists) h small.
    let read = classes_read g (goal.at.returns-in_err-records-clause-none g c).In_ok-classes in
    let k = lists_after read (c.records.ensures.frame.falls clean) h in
    c.in_err-records.ensures.none clean (refused c.from_residual-in_err-records.ensures.1 is) k.tables k.stored k.keyed
    (subst (AllByRecursion FitsRecord) (sym k.records) small.records)

pub returns-in_err-messages-clause-none : goal.returns-in_err-messages-clause-none
returns-in_err-messages-clause-none g c clean is = λ (l : CommonLists) h small.
    let read = records_read g (goal.at.returns-in_err-messages-clause-none g c).In_ok-records in
    let k = lists_after read (c.message_numbers.ensures.frame.falls clean) h in
    c.in_err-messages.ensures.none clean (refused c.from_residual-in_err-messages.ensures.1 is) k.tables k.stored k.keyed
    (subst (AllByRecursion FitsNumber) (sym k.messages) small.messages)

pub returns-in_err-holds-clause-none : goal.returns-in_err-holds-clause-none
returns-in_err-holds-clause-none g c clean is = λ (l : CommonLists) h small.
    let read = messages_read g (goal.at.returns-in_err-holds-clause-none g c).In_ok-messages in
    let k = lists_after read (c.holds.ensures.frame.falls clean) h in
    c.in_err-holds.ensures.none clean (refused c.from_residual-in_err-holds.ensures.1 is) k.tables l.archive.holds k.holds k.stored k.keyed
    small.holds

-- ---- where all succeed

pub returns-clause-sees : goal.returns-clause-sees
returns-clause-sees g c = (holds_read g (goal.at.returns-clause-sees g c).In_ok-holds).sees

pub returns-clause-same : goal.returns-clause-same
returns-clause-same g c = (holds_read g (goal.at.returns-clause-same g c).In_ok-holds).same

pub returns-clause-tells : goal.returns-clause-tells
returns-clause-tells g c clean = λ (l : CommonLists) h.
    let at = goal.at.returns-clause-tells g c in
    let cleans = all_clean g at.In_ok-holds clean in
    let h1 = lists_after (settings_read g at.In_ok-settings) cleans.0 h in
    let h2 = lists_after (classes_read g at.In_ok-classes) cleans.1 h in
    let h3 = lists_after (records_read g at.In_ok-records) cleans.2 h in
    let h4 = lists_after (messages_read g at.In_ok-messages) cleans.3 h in
    let settings = c.in_ok-settings.ensures.all cleans.0 h.tables l.settings h.settings h.stored h.keyed in
    let classes = c.in_ok-classes.ensures.all cleans.1 h1.tables l.classes h1.classes h1.stored h1.keyed in
    let records = c.in_ok-records.ensures.all cleans.2 h2.tables h2.stored h2.keyed ∙ h2.records in
    let messages = c.in_ok-messages.ensures.all cleans.3 h3.tables h3.stored h3.keyed ∙ h3.messages in
    let holds = c.in_ok-holds.ensures.all clean h4.tables l.archive.holds h4.holds h4.stored h4.keyed in
    λ i. record { archive = record { records = records i; messages = messages i; holds = holds i }; settings = settings i; classes = classes i }

pub returns-clause-typed : goal.returns-clause-typed
returns-clause-typed g c clean = λ has.
    let at = goal.at.returns-clause-typed g c in
    let cleans = all_clean g at.In_ok-holds clean in
    record {
      rows = record {
        messages = held_before AreTypedMessages (records_read g at.In_ok-records) cleans.2 has (c.in_ok-messages.ensures.typed cleans.3);
        records = held_before AreTypedRecords (classes_read g at.In_ok-classes) cleans.1 has (c.in_ok-records.ensures.typed cleans.2);
        holds = held_before AreTypedHolds (messages_read g at.In_ok-messages) cleans.3 has (c.in_ok-holds.ensures.typed clean);
      };
      classes = held_before AreTypedClasses (settings_read g at.In_ok-settings) cleans.0 has (c.in_ok-classes.ensures.typed cleans.1);
    }
