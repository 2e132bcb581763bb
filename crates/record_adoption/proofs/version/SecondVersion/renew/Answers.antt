use Rattle.std.proofs.Common.{◌∙◌, List, map, arith, rules}
use Rattle.sqlite.specs.Effect.{Database}
use Rattle.sqlite.specs.State.{HasCleanDisk}
use Rattle.sqlite.specs.Held.{state}
use Rattle.record_archive.specs.Archive.{Archive}
use Rattle.record_tables.specs.Tables.{IsArchiveSchema}
use Rattle.record_tables.specs.Changes.{IsRevised}
use Rattle.record_tables.specs.CodeRows.{rule_of, class_entry_of, due_of}
use Rattle.record_tables.specs.declared.rows.DueRow.{DueRow}
use Rattle.record_adoption.specs.Adoption.{FindsSecond, FindsWith, LeavesArchive, Sees}
use Rattle.record_adoption.specs.Keeping.{StoresArchive}
use Rattle.record_adoption.specs.declared.plan_rows.PlanRows.{PlanRows}
use Rattle.record_adoption.proofs.AdoptReads.{Reads, holds_after}
use Rattle.record_adoption.proofs.AdoptSettled.{stores_settled, tells_slices, leaves_read, leaves_then, leaves_made}
use Rattle.record_adoption.proofs.version.SecondVersion.renew.Given.{Over}
use Rattle.record_adoption.proofs.version.SecondVersion.renew.Goals.{After-are_dues, In_ok-are_stored, After-replace_plan}
use Rattle.record_adoption.proofs.version.SecondVersion.renew.Goals as goal

-- the archive that is found
abbrev IsFound : PlanRows → List DueRow → Database → Archive → Type 0
IsFound plan dues = FindsWith FindsSecond plan (map due_of dues)

-- ---- the stored due days are read

abbrev FoundBefore : (g : Over) → After-are_dues g → Archive → Type 0
FoundBefore g c = IsFound c.args.plan.now c.args.dues.now (state g.S.Store c.args.conn.now).now

-- the read alone leaves what was there
seen : (g : Over) (c : After-are_dues g) → LeavesArchive g.S.Store c.args.conn.now c.are_dues.new.conn (FoundBefore g c)
seen g c =
    let sees : Sees g.S.Store IsArchiveSchema c.args.conn.now c.are_dues.new.conn = search rules in
    leaves_read (FoundBefore g c) sees (λ a is. is.0.stored.schema)

dues_read : (g : Over) (c : In_ok-are_stored g) → Reads g.S.Store IsArchiveSchema c.args.conn.now c.are_dues.new.conn
dues_read g c = record { sees = search rules; same = c.in_ok-are_stored.ensures.frame.same }

pub returns-in_err-are_stored-clause-crash : goal.returns-in_err-are_stored-clause-crash
returns-in_err-are_stored-clause-crash g c = seen g (goal.at.returns-in_err-are_stored-clause-crash g c).After-are_dues

pub returns-then-are_stored-clause-crash : goal.returns-then-are_stored-clause-crash
returns-then-are_stored-clause-crash g c = seen g (goal.at.returns-then-are_stored-clause-crash g c).After-are_dues

pub returns-then-are_stored-clause-ok : goal.returns-then-are_stored-clause-ok
returns-then-are_stored-clause-ok g c clean = λ (a : Archive) is.
    let h = is.0 in
    let told = c.in_ok-are_stored.ensures.are clean h.tables h.stored h.keyed in
    let read = dues_read g (goal.at.returns-then-are_stored-clause-ok g c).In_ok-are_stored in
    holds_after (λ (db : Database). StoresArchive db a) read clean h.stored.schema
    (record { tables = h.tables; stored = h.stored; keyed = h.keyed; keeps = h.keeps; dues = told.0 c.if-are_stored.true ∙ is.2 })

-- ---- they are replaced

-- the archive that is found is still there
still_found : (g : Over) (c : In_ok-are_stored g) → HasCleanDisk (state g.S.Store c.are_dues.new.conn) → (a : Archive)
    → IsFound c.args.plan.now c.args.dues.now (state g.S.Store c.args.conn.now).now a
    → IsFound c.args.plan.now c.args.dues.now (state g.S.Store c.are_dues.new.conn).now a
still_found g c clean a is =
    holds_after (λ (db : Database). IsFound c.args.plan.now c.args.dues.now db a) (dues_read g c) clean is.0.stored.schema is

abbrev IsRevisedHere : (g : Over) → After-replace_plan g → Database → Type 0
IsRevisedHere g c = IsRevised (map rule_of c.as_slice.result.now) (map class_entry_of c.as_slice-2.result.now) (map due_of c.args.dues.now)
    (state g.S.Store c.are_dues.new.conn).now

-- it is stored with these due days after they are replaced
settled : (g : Over) (c : After-replace_plan g) (db : Database) → IsRevisedHere g c db → (a : Archive)
    → IsFound c.args.plan.now c.args.dues.now (state g.S.Store c.are_dues.new.conn).now a → StoresArchive db a
settled g c db turns a is = stores_settled (tells_slices is.1 c.as_slice.ensures.value c.as_slice-2.ensures.value) is.2 is.0 turns

-- a crash leaves it stored with them, or what was there
crash : (g : Over) (c : After-replace_plan g)
    → LeavesArchive g.S.Store c.args.conn.now c.replace_plan.new.conn
    (IsFound c.args.plan.now c.args.dues.now (state g.S.Store c.args.conn.now).now)
crash g c =
    let at = (goal.at.After-replace_plan g c).In_ok-are_stored in
    leaves_then c.replace_plan.new.conn _ _ (dues_read g at) (λ a is. is.0.stored.schema) (still_found g at)
    (leaves_made g.S.Store c.are_dues.new.conn c.replace_plan.new.conn _ (IsRevisedHere g c)
    (λ db turns a is. (settled g c db turns a is, λ was. turns.sound was is.0.tables is.0.stored is.0.keyed tt)) c.replace_plan.ensures.crash)

pub returns-clause-ok : goal.returns-clause-ok
returns-clause-ok g c clean = λ (a : Archive) is.
    let at = goal.at.returns-clause-ok g c in
    let clean1 : HasCleanDisk (state g.S.Store c.are_dues.new.conn) = omega (arith, c.replace_plan.ensures.crash.clean, clean) in
    settled g at.After-replace_plan _ (c.in_ok-replace_plan.ensures.ok clean) a (still_found g at.In_ok-are_stored clean1 a is)

pub returns-clause-crash : goal.returns-clause-crash
returns-clause-crash g c = crash g (goal.at.returns-clause-crash g c).After-replace_plan

pub returns-in_err-replace_plan-clause-crash : goal.returns-in_err-replace_plan-clause-crash
returns-in_err-replace_plan-clause-crash g c = crash g (goal.at.returns-in_err-replace_plan-clause-crash g c).After-replace_plan
