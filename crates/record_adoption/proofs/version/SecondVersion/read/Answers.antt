use Rattle.std.proofs.Common.{◌≡◌, ◌∙◌, ap, subst, map, rules}
use Rattle.sqlite.specs.State.{HasCleanDisk}
use Rattle.sqlite.specs.Held.{state}
use Rattle.sqlite.specs.Effect.{Database}
use Rattle.record_archive.specs.Archive.{Archive}
use Rattle.record_tables.specs.Tables.{IsArchiveSchema}
use Rattle.record_tables.specs.CodeRows.{rule_of}
use Rattle.record_reads.specs.RawRows.{AreTypedSchedules}
use Rattle.record_rows.specs.Rules.{rules_of}
use Rattle.record_adoption.specs.Adoption.{CommonLists, FindsSecond, IsKeyed, ReadsSecond, Sees, TellsPlan, TellsSecond, common_lists}
use Rattle.record_adoption.proofs.AdoptPlan.{rules_listed, rules_fit}
use Rattle.record_adoption.proofs.AdoptReads.{Reads, sees_as, sees_then, reads_then, holds_after, held_before, archive_common, refused}
use Rattle.record_adoption.proofs.AdoptReads.{second_lists, second_listed, second_read, second_sound}
use Rattle.record_adoption.proofs.AdoptRows.{archive_small}
use Rattle.record_adoption.proofs.AdoptSettled.{keyed_of}
use Rattle.record_adoption.proofs.version.SecondVersion.read.Given.{Over}
use Rattle.record_adoption.proofs.version.SecondVersion.read.Goals.{In_ok-rows, After-schedules, In_ok-rules, After-as_slice}
use Rattle.record_adoption.proofs.version.SecondVersion.read.Goals as goal

-- ---- the two reads

rows_read : (g : Over) (c : In_ok-rows g) → Reads g.S.Store IsArchiveSchema c.args.conn.now c.common_rows.new.conn
rows_read g c = record {
  sees = sees_as IsArchiveSchema archive_common c.common_rows.ensures.sees;
  same = λ clean are. c.in_ok-rows.ensures.same clean (archive_common _ are);
}

both_seen : (g : Over) (c : After-schedules g) → Sees g.S.Store IsArchiveSchema c.args.conn.now c.schedules.new.conn
both_seen g c = sees_then (rows_read g (goal.at.After-schedules g c).In_ok-rows) (search rules)

-- what is read of an archive
told : (g : Over) (c : After-as_slice g) → HasCleanDisk (state g.S.Store c.schedules.new.conn) → (a : Archive)
    → FindsSecond (state g.S.Store c.args.conn.now).now a → IsKeyed a
    → (common_lists c.in_ok-rows.rows ≡ second_lists a) × TellsSecond c.in_ok-rows.rows (map rule_of c.as_slice.result.now) a.plan
told g c clean a h keyed =
    let clean1 = c.schedules.ensures.frame.falls clean in
    let k = holds_after (λ (db : Database). FindsSecond db a) (rows_read g (goal.at.After-as_slice g c).In_ok-rows) clean1 h.stored.schema h in
    let lists = c.in_ok-rows.ensures.tells clean1 (second_lists a) (second_listed h keyed) in
    let listed = rules_listed k.tables a.plan keyed.plan k.keeps.schedules in
    let rules = c.in_ok-rules.ensures.all clean k.tables (rules_of a.plan) listed k.stored k.keyed in (
      lists,
      record {
        settings = ap (λ (l : CommonLists). l.settings) lists;
        rules = ap (map rule_of) c.as_slice.ensures.value ∙ rules;
        classes = ap (λ (l : CommonLists). l.classes) lists;
      },
    )

-- ---- what is seen

pub returns-in_err-rows-clause-sees : goal.returns-in_err-rows-clause-sees
returns-in_err-rows-clause-sees g c = sees_as IsArchiveSchema archive_common c.common_rows.ensures.sees

pub returns-in_err-rules-clause-sees : goal.returns-in_err-rules-clause-sees
returns-in_err-rules-clause-sees g c = both_seen g (goal.at.returns-in_err-rules-clause-sees g c).After-schedules

pub returns-in_err-plan-clause-sees : goal.returns-in_err-plan-clause-sees
returns-in_err-plan-clause-sees g c = both_seen g (goal.at.returns-in_err-plan-clause-sees g c).After-schedules

pub returns-in_err-plan_rows-clause-sees : goal.returns-in_err-plan_rows-clause-sees
returns-in_err-plan_rows-clause-sees g c = both_seen g (goal.at.returns-in_err-plan_rows-clause-sees g c).After-schedules

pub returns-in_err-overview-clause-sees : goal.returns-in_err-overview-clause-sees
returns-in_err-overview-clause-sees g c = both_seen g (goal.at.returns-in_err-overview-clause-sees g c).After-schedules

pub returns-clause-sees : goal.returns-clause-sees
returns-clause-sees g c = both_seen g (goal.at.returns-clause-sees g c).After-schedules

pub returns-clause-same : goal.returns-clause-same
returns-clause-same g c =
    let second : Reads g.S.Store IsArchiveSchema c.common_rows.new.conn c.schedules.new.conn =
    record { sees = search rules; same = c.in_ok-rules.ensures.frame.same } in
    (reads_then (rows_read g (goal.at.returns-clause-same g c).In_ok-rows) second).same

-- ---- refusals

pub returns-in_err-rows-clause-none : goal.returns-in_err-rows-clause-none
returns-in_err-rows-clause-none g c clean is = λ (a : Archive) h archive.
    c.in_err-rows.ensures.none clean (refused c.from_residual.ensures.1 is) (second_lists a)
    (second_listed h (keyed_of a archive)) (archive_small a archive)

pub returns-in_err-rules-clause-none : goal.returns-in_err-rules-clause-none
returns-in_err-rules-clause-none g c clean is = λ (a : Archive) h archive.
    let read = rows_read g (goal.at.returns-in_err-rules-clause-none g c).In_ok-rows in
    let k = holds_after (λ (db : Database). FindsSecond db a) read (c.schedules.ensures.frame.falls clean) h.stored.schema h in
    c.in_err-rules.ensures.none clean (refused c.from_residual-in_err-rules.ensures.1 is) k.tables (rules_of a.plan)
    (rules_listed k.tables a.plan archive.plan k.keeps.schedules) k.stored k.keyed (rules_fit a.plan archive.plan)

pub returns-in_err-plan-clause-none : goal.returns-in_err-plan-clause-none
returns-in_err-plan-clause-none g c clean is = λ (a : Archive) h archive.
    let tells = told g (goal.at.returns-in_err-plan-clause-none g c).After-as_slice clean a h (keyed_of a archive) in
    c.in_err-plan.ensures.none (refused c.from_residual-in_err-plan.ensures.1 is) a.plan archive.plan tells.1

pub returns-in_err-overview-clause-none : goal.returns-in_err-overview-clause-none
returns-in_err-overview-clause-none g c clean is = λ (a : Archive) h archive.
    let tells = told g (goal.at.returns-in_err-overview-clause-none g c).After-as_slice clean a h (keyed_of a archive) in
    c.in_err-overview.ensures.none (refused c.from_residual-in_err-overview.ensures.1 is) a
    (c.in_ok-plan.ensures.plan a.plan archive.plan tells.1) (ap (λ (l : CommonLists). l.archive) tells.0) archive

-- ---- what is found

pub returns-clause-found : goal.returns-clause-found
returns-clause-found g c clean = λ (a : Archive) h keyed.
    let tells = told g (goal.at.returns-clause-found g c).After-as_slice clean a h keyed in
    let plan = c.in_ok-plan.ensures.plan a.plan keyed.plan tells.1 in (
      subst (TellsPlan c.in_ok-plan_rows.plan_rows) plan c.in_ok-plan_rows.ensures,
      c.in_ok-overview.ensures.found a plan keyed (ap (λ (l : CommonLists). l.archive) tells.0),
    )

pub returns-clause-sound : goal.returns-clause-sound
returns-clause-sound g c clean = λ t ps rs cs d.
    let clean1 = c.schedules.ensures.frame.falls clean in
    let read = rows_read g (goal.at.returns-clause-sound g c).In_ok-rows in
    let k = holds_after (λ (db : Database). ReadsSecond db t ps rs cs) read clean1 d.stored.schema d in
    let lists = c.in_ok-rows.ensures.tells clean1 _ (second_read c.in_ok-plan.plan d) in
    let rules = ap (map rule_of) c.as_slice.ensures.value ∙ c.in_ok-rules.ensures.all clean t rs k.schedules k.stored k.keyed in
    second_sound d lists rules c.in_ok-plan.ensures.sound.0 c.in_ok-plan.ensures.sound.1 c.in_ok-overview.ensures.sound

pub returns-clause-typed : goal.returns-clause-typed
returns-clause-typed g c clean = λ has.
    let clean1 = c.schedules.ensures.frame.falls clean in
    let first = c.in_ok-rows.ensures.typed clean1 (archive_common _ has) in
    let read = rows_read g (goal.at.returns-clause-typed g c).In_ok-rows in
    let schedules = held_before AreTypedSchedules read clean1 has (c.in_ok-rules.ensures.typed clean) in
    record { rows = first.rows; classes = first.classes; schedules = schedules }
