use Rattle.std.proofs.Common.{IsTrue, refl, sym, subst, inl, inr, arith}
use Rattle.std.proofs.lemmas.Bool.{cases_Bool}
use Rattle.sqlite.specs.State.{HasCleanDisk}
use Rattle.sqlite.specs.Held.{Held, state}
use Rattle.record_archive.specs.Archive.{Archive}
use Rattle.record_archive.specs.Faults.{is_trouble}
use Rattle.record_store.specs.Stores as stores
use Rattle.record_store.specs.declared.store.Store.{Store}
use Rattle.record_adoption.specs.Adoption.{Finds, LeavesArchive}
use Rattle.session_files.proofs.UnservedLemmas.{leaves_then}
use Rattle.session_files.proofs.opening.open_desk.Goals as goal

pub returns-in-Err-clause-still_clean : goal.returns-in-Err-clause-still_clean
returns-in-Err-clause-still_clean g c clean = omega (arith, c.in-Err.ensures.crash_refused.clean)

pub returns-in-Err-clause-refused : goal.returns-in-Err-clause-refused
returns-in-Err-clause-refused g c clean a found is =
    elim (cases_Bool (is_trouble c.in-Err.refused.0)) [
      | inl trouble ↦ trouble
      | inr none ↦
          let no = c.in-Err.ensures.no_archive (c.in-Err.ensures.trouble none) clean in
          absurd (elim found [ inl rows ↦ no.1 a rows.0 is | inr empty ↦ no.0 empty.0.none ])
    ]

pub returns-in-Ok-new-clause-clean : goal.returns-in-Ok-new-clause-clean
returns-in-Ok-new-clause-clean g c clean =
    let CleanStore : Store g.row.S.Denot → Type 0 = λ s. HasCleanDisk (state g.S.Store s.conn) in
    let early = c.ensure_open.ensures.falls (subst CleanStore c.in-Ok-new.ensures.over clean) in
    omega (arith, c.in-Ok.ensures.crash.clean, early)

pub returns-in-Ok-new-clause-stands : goal.returns-in-Ok-new-clause-stands
returns-in-Ok-new-clause-stands g c clean a found =
    let CleanStore : Store g.row.S.Denot → Type 0 = λ s. HasCleanDisk (state g.S.Store s.conn) in
    let Stands : Archive → Type 0 = λ b. stores.StandsFor g.S.Store c.in-Ok.store b in
    let early = c.ensure_open.ensures.falls (subst CleanStore c.in-Ok-new.ensures.over clean) in
    c.in-Ok-new.ensures.opens a (c.ensure_open.ensures.stands a (elim found [
      | inl rows ↦ c.in-Ok.ensures.found early a rows.0 rows.1
      | inr none ↦ subst Stands (sym none.1) (c.in-Ok.ensures.empty early none.0)
    ]))

pub returns-in-Err-new-clause-still_clean : goal.returns-in-Err-new-clause-still_clean
returns-in-Err-new-clause-still_clean g c clean =
    let CleanConn : Held g.row.S.Denot → Type 0 = λ h. HasCleanDisk (state g.S.Store h) in
    let CleanStore : Store g.row.S.Denot → Type 0 = λ s. HasCleanDisk (state g.S.Store s.conn) in
    let early = c.ensure_open.ensures.falls (subst CleanStore c.in-Err-new.ensures.handed_back
    (subst CleanConn c.into_connection-in-Err-new.ensures clean)) in
    omega (arith, c.in-Ok.ensures.crash.clean, early)

pub returns-in-Err-new-clause-refused : goal.returns-in-Err-new-clause-refused
returns-in-Err-new-clause-refused g c clean a found is = refl

pub returns-in-Ok-new-clause-leaves : goal.returns-in-Ok-new-clause-leaves
returns-in-Ok-new-clause-leaves g c clean a found trees may =
    let CleanStore : Store g.row.S.Denot → Type 0 = λ s. HasCleanDisk (state g.S.Store s.conn) in
    let MayLeave : Store g.row.S.Denot → Type 0 = λ s. (state g.S.Store s.conn).may_leave trees in
    let Stands : Archive → Type 0 = λ b. stores.StandsFor g.S.Store c.in-Ok.store b in
    let now = subst CleanStore c.in-Ok-new.ensures.over clean in
    let early = c.ensure_open.ensures.falls now in
    let there = c.ensure_open.ensures.stands a (elim found [
      | inl rows ↦ c.in-Ok.ensures.found early a rows.0 rows.1
      | inr none ↦ subst Stands (sym none.1) (c.in-Ok.ensures.empty early none.0)
    ]) in
    (c.is_idle-idle.ensures.left now (c.in_default.ensures.open now) a there trees (subst MayLeave c.in-Ok-new.ensures.over may)).0

pub returns-in-Ok-new-clause-open : goal.returns-in-Ok-new-clause-open
returns-in-Ok-new-clause-open g c clean =
    let CleanStore : Store g.row.S.Denot → Type 0 = λ s. HasCleanDisk (state g.S.Store s.conn) in
    let OpenStore : Store g.row.S.Denot → Type 0 = λ s. IsTrue (state g.S.Store s.conn).is_open in
    subst OpenStore (sym c.in-Ok-new.ensures.over) (c.in_default.ensures.open (subst CleanStore c.in-Ok-new.ensures.over clean))

pub returns-in-Err-ensure_open-clause-left : goal.returns-in-Err-ensure_open-clause-left
returns-in-Err-ensure_open-clause-left g c =
    let Left : Held g.row.S.Denot → Type 0 = λ h. LeavesArchive g.S.Store c.args.conn h (Finds (state g.S.Store c.args.conn).now) in
    subst Left (sym c.into_connection.ensures) (leaves_then g.S.Store c.args.conn c.in-Ok.store.conn c.ensure_open.new.self.conn
    (Finds (state g.S.Store c.args.conn).now) c.in-Ok.ensures.crash c.ensure_open.ensures.crash)

pub returns-in-Err-new-clause-left : goal.returns-in-Err-new-clause-left
returns-in-Err-new-clause-left g c =
    let Left : Held g.row.S.Denot → Type 0 = λ h. LeavesArchive g.S.Store c.args.conn h (Finds (state g.S.Store c.args.conn).now) in
    let LeftStore : Store g.row.S.Denot → Type 0 = λ s. Left s.conn in
    subst Left (sym c.into_connection-in-Err-new.ensures) (subst LeftStore (sym c.in-Err-new.ensures.handed_back)
    (leaves_then g.S.Store c.args.conn c.in-Ok.store.conn c.ensure_open.new.self.conn (Finds (state g.S.Store c.args.conn).now)
    c.in-Ok.ensures.crash c.ensure_open.ensures.crash))
