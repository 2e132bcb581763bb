use Rattle.std.proofs.Common.{◌≡◌, map, arith, rules, sym, ap, subst, ◌∙◌, IsTrue, true, Err, refl}
use Rattle.sqlite.specs.Effect.{Database, IsDatabase}
use Rattle.sqlite.specs.State.{HasCleanDisk}
use Rattle.sqlite.specs.Held.{state}
use Rattle.record_tables.specs.Rows.{Tables, StoresKeyed}
use Rattle.record_tables.specs.Changes.{Puts, Turns}
use Rattle.record_tables.specs.CodeRows.{record_of, hold_entry_of}
use Rattle.record_copy.specs.NewRows.{HasNoMessages, HasNoHolds, IsFreshFor, with_messages, with_records, with_holds}
use Rattle.record_copy.specs.NewRows.{HasNoRows, with_rows_of}
use Rattle.record_copy.proofs.CauseLemmas.{handed_on, never_lost}
use Rattle.record_copy.proofs.CopyLemmas.{filled}
use Rattle.record_copy.proofs.fill.fill.Goals as goal

pub returns-clause-filled : goal.returns-clause-filled
returns-clause-filled g c clean_to clean = λ (s : Tables) stored keyed plan told.
    let start = state g.T.Store (record c.args.to.now { in_transaction = true }) in
    let first = state g.T.Store c.copy_messages.new.tx.conn.now in
    let second = state g.T.Store c.insert_records.new.tx.conn.now in
    let last = state g.T.Store c.insert_holds.new.tx.conn.now in
    let rs = map record_of c.args.rows.now.records.items in
    let hs = map hold_entry_of c.args.rows.now.holds.items in
    let begun = c.transaction-tx.ensures.begun in
    let same : c.commit.new.self.0 ≡ c.to-2-1.given.0 = search rules in
    let clean_end : HasCleanDisk (state g.T.Store c.commit.new.self.0) = subst (λ h. HasCleanDisk (state g.T.Store h)) (sym same) clean_to in
    let clean3 : HasCleanDisk last = omega (arith, c.commit.ensures.survives.clean, clean_end) in
    let clean2 : HasCleanDisk second = omega (arith, c.insert_holds.ensures.frame.survives.clean, clean3) in
    let clean1 : HasCleanDisk first = omega (arith, c.insert_records.ensures.frame.survives.clean, clean2) in
    let one : Puts start first HasNoMessages (with_messages s.messages) =
    rw begun at (c.in_ok-copy_messages.ensures.copied clean s stored keyed (c.as_slice.ensures.value ∙ told.messages) clean1 (rw begun)) in
    let two : Puts first second (IsFreshFor rs) (with_records rs) =
    rw c.as_slice-2.ensures.value at (c.in_ok-insert_records.ensures.ok clean2 (one.mode ∙ refl)) in
    let three : Puts second last HasNoHolds (with_holds hs) =
    rw c.as_slice-3.ensures.value at (c.in_ok-insert_holds.ensures.ok clean3 (two.mode ∙ one.mode ∙ refl)) in
    let whole = filled start first second last s c.args.rows.now plan told keyed one two three in
    let ended = c.in_ok-commit.ensures.ok clean_end in
    subst (λ h. IsTrue (state g.T.Store c.args.to.now).is_open
    × Turns (state g.T.Store c.args.to.now).now (state g.T.Store h).now HasNoRows (with_rows_of s)) same (
      subst IsTrue whole.is_open ended.1.was_open,
      record {
        stored = λ t stored_to keyed_to none. subst (λ (db : Database). StoresKeyed db (with_rows_of s t)) (sym ended.1.now_is)
            (whole.stored t stored_to keyed_to none);
        sound = λ is t stored_to keyed_to none. subst IsDatabase (sym ended.1.now_is) (whole.sound is t stored_to keyed_to none);
      },
    )

pub returns-in_err-copy_messages-clause-lost : goal.returns-in_err-copy_messages-clause-lost
returns-in_err-copy_messages-clause-lost g c clean is = λ (s : Tables) stored keyed plan told.
    let e = handed_on c.from_residual.result c.in_err-copy_messages.field-0.0 c.from_residual.ensures.1 is in
    c.in_err-copy_messages.ensures.lost clean (ap Err e) s stored keyed (c.as_slice.ensures.value ∙ told.messages)

pub returns-in_err-insert_records-clause-lost : goal.returns-in_err-insert_records-clause-lost
returns-in_err-insert_records-clause-lost g c clean is =
    absurd (never_lost c.from_residual-in_err-insert_records.result c.in_err-insert_records.field-0.0
    c.from_residual-in_err-insert_records.ensures.1 is)

pub returns-in_err-insert_holds-clause-lost : goal.returns-in_err-insert_holds-clause-lost
returns-in_err-insert_holds-clause-lost g c clean is =
    absurd (never_lost c.from_residual-in_err-insert_holds.result c.in_err-insert_holds.field-0.0
    c.from_residual-in_err-insert_holds.ensures.1 is)

pub returns-in_err-commit-clause-lost : goal.returns-in_err-commit-clause-lost
returns-in_err-commit-clause-lost g c clean is =
    absurd (never_lost c.from_residual-in_err-commit.result c.in_err-commit.field-0.0 c.from_residual-in_err-commit.ensures.1 is)
