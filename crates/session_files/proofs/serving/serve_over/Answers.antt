use Rattle.std.proofs.Common.{◌≡◌, ◌∙◌, ◌<◌, false, ap, inl, subst, sym, arith}
use Rattle.sqlite.specs.Tree.{Trees}
use Rattle.sqlite.specs.Held.{Held, state}
use Rattle.record_store.specs.Stores.{Left, ShutAfter, FateKeeps, TreesKeep, keeper_of}
use Rattle.record_store.specs.declared.store.Store.{Store}
use Rattle.desk_commands.specs.Standing.{opening}
use Rattle.session_protocol.specs.Crashes.{IsLeftOf}
use Rattle.filing_desk.specs.Standing.{desk_keeper}
use Rattle.session_files.proofs.SessionLemmas.{clean_alike, desk_told, done_refines, ends_at, leaves_refines, left_in, met_first, told_refines}
use Rattle.session_files.proofs.serving.serve_over.Goals as goal

pub returns-clause-served : goal.returns-clause-served
returns-clause-served g c clean heard said =
    let keeper = desk_keeper (keeper_of g.S.Store) in
    let same = c.into_connection.ensures ∙ ap (λ (s : Store g.row.S.Denot). s.conn) c.into_store.ensures.store in
    let serve = c.serve-session in
    let law = c.sessions_refine_states.ensures in
    let told = desk_told keeper serve.result _ _ _ _ _
    (serve.ensures.ok heard said) (serve.ensures.unheard heard said) (serve.ensures.unsaid heard said) in
    let led = told_refines keeper law.served law.answered law.cut_in_answer law.cut_in_ending
    serve.result _ _ _ _ _ told (clean_alike g.S.Store _ _ same clean) in (
      c.in-Ok.ensures.clean led.0,
      λ a found.
          ends_at g.S.Store keeper _ c.into_store.result _ c.into_connection.ensures c.into_store.ensures.stands
          a _ (led.1 (opening a) (c.in-Ok.ensures.stands led.0 a found)),
    )

pub returns-clause-done : goal.returns-clause-done
returns-clause-done g c clean =
    let keeper = desk_keeper (keeper_of g.S.Store) in
    let same = c.into_connection.ensures ∙ ap (λ (s : Store g.row.S.Denot). s.conn) c.into_store.ensures.store in
    let led = done_refines keeper c.sessions_refine_states.ensures.done _ _ _ _
    c.serve-session.ensures.done (clean_alike g.S.Store _ _ same clean) in (
      c.in-Ok.ensures.clean led.0,
      λ a found.
          ends_at g.S.Store keeper _ c.into_store.result _ c.into_connection.ensures c.into_store.ensures.stands
          a _ (led.1 (opening a) (c.in-Ok.ensures.stands led.0 a found)),
    )

pub returns-clause-left : goal.returns-clause-left
returns-clause-left g c clean =
    let keeper = desk_keeper (keeper_of g.S.Store) in
    let same = c.into_connection.ensures ∙ ap (λ (s : Store g.row.S.Denot). s.conn) c.into_store.ensures.store in
    let serve = c.serve-session in
    let law = c.sessions_refine_states.ensures in
    let sure = clean_alike g.S.Store _ _ same clean in
    let led = done_refines keeper law.done _ _ _ _ serve.ensures.done sure in (
      c.in-Ok.ensures.clean led.0,
      λ a found.
          let l = leaves_refines keeper law.done law.crash _ _ _ _ serve.ensures.done sure (opening a)
          (c.in-Ok.ensures.stands led.0 a found)
          (met_first g.S.Store c.in-Ok.desk.store a (c.in-Ok.ensures.open led.0) (c.in-Ok.ensures.leaves led.0 a found)) in
          let Kept : Held g.row.S.Denot → Type 0 = λ h. (trees : Trees) → (state g.S.Store h).may_leave trees
          → IsLeftOf TreesKeep trees (opening a) l.1.items l.1.answers in
          let Shut : Held g.row.S.Denot → Type 0 = λ h. (state g.S.Store h).is_open ≡ false → 0 < (state g.S.Store h).faults in
          record {
            to = l.0;
            reached = l.1;
            kept = subst Kept (sym same) (λ trees may. left_in FateKeeps TreesKeep (Left trees) trees (λ b kept. kept)
                (opening a) l.1.items l.1.answers (l.2 (Left trees) may));
            shut = subst Shut (sym same) (λ closed. (l.2 (ShutAfter _) (omega arith, inl closed)).kept);
          },
    )
