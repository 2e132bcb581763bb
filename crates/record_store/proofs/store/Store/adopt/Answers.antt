use Rattle.std.proofs.Common.{inl, inr, sym, ap, ◌∙◌, true≢false}
use Rattle.std.proofs.lemmas.Result.{IfOk-weaker, IfErr-weaker}
use Rattle.sqlite.specs.Held.{state}
use Rattle.record_archive.specs.Archive.{Archive}
use Rattle.record_archive.specs.Faults.{is_trouble}
use Rattle.record_adoption.specs.Adoption.{Finds, FindsSecond, FindsFirst, FindsNothing}
use Rattle.record_adoption.proofs.AdoptSettled.{keyed_of, leaves_weaker}
use Rattle.record_store.proofs.AdoptLayouts.{lays_at, is_second, is_first, no_tables, rows_left, no_rows, no_reads, second_reads, first_reads}
use Rattle.record_store.proofs.AdoptLayouts.{finds_nothing, finds_none, leaves_version, typed_empty, typed_second, typed_first}
use Rattle.record_store.proofs.store.Store.adopt.Goals as goal

pub returns-in-Empty : goal.returns-in-Empty
returns-in-Empty g c =
    let db = (state g.S.Store c.args.conn).now in
    let l = c.layout_of.result in
    let lays = lays_at c.schema.result.now db.schema l c.schema.ensures.value c.layout_of.ensures.is c.layout_of.ensures.empty
    c.layout_of.ensures.first c.layout_of.ensures.first_with_dues c.layout_of.ensures.second in
    let is = c.in-Empty.is in
    let r = c.create.result in
    let made = c.create.ensures in
    record {
      empty = made.ok;
      found = IfOk-weaker r _ _ (λ s h clean (a : Archive) rows keyed. absurd (no_rows db a l lays is rows)) made.ok;
      reopened = IfOk-weaker r _ _ (λ s h clean (a : Archive) left archive. absurd (no_rows db a l lays is (rows_left db a left))) made.ok;
      sound = IfOk-weaker r _ _ (λ s h clean has. absurd (no_reads db l lays is has)) made.ok;
      typed = IfOk-weaker r _ _ (λ s h clean. typed_empty db l lays is) made.ok;
      layout = IfOk-weaker r _ _ (λ s h. inr (no_tables db.schema l lays is)) made.ok;
      no_archive = IfErr-weaker r _ _ (λ e h refused. absurd (true≢false (sym h ∙ ap is_trouble refused))) made.trouble;
      trouble = IfErr-weaker r _ _ (λ e h none. absurd (true≢false (sym h ∙ none))) made.trouble;
      cause = made.cause;
      unchanged = made.unchanged;
      crash = IfOk-weaker r _ _
          (λ s h. leaves_weaker g.S.Store c.args.conn s.conn (FindsNothing db) (Finds db) (λ a f. finds_nothing db a l lays is f) h) made.crash;
      crash_refused = IfErr-weaker r _ _
          (λ e h. leaves_weaker g.S.Store c.args.conn e.1 (FindsNothing db) (Finds db) (λ a f. finds_nothing db a l lays is f) h)
          made.crash_refused;
    }

pub returns-in-Second : goal.returns-in-Second
returns-in-Second g c =
    let db = (state g.S.Store c.args.conn).now in
    let l = c.layout_of.result in
    let lays = lays_at c.schema.result.now db.schema l c.schema.ensures.value c.layout_of.ensures.is c.layout_of.ensures.empty
    c.layout_of.ensures.first c.layout_of.ensures.first_with_dues c.layout_of.ensures.second in
    let version = is_second db l lays c.in-Second.is in
    let r = c.adopt_version.result in
    let told = c.adopt_version.ensures in
    record {
      empty = IfOk-weaker r _ _ (λ s h clean free. absurd (version.named free.none)) told.found;
      found = IfOk-weaker r _ _ (λ s h clean (a : Archive) rows keyed. h clean a (version.only a rows) keyed) told.found;
      reopened = IfOk-weaker r _ _ (λ s h clean (a : Archive) left archive.
          h clean a (version.only a (rows_left db a left)) (keyed_of a archive)) told.found;
      sound = IfOk-weaker r _ _ (λ s h clean has. let d = second_reads db l lays c.in-Second.is has in h clean d.0 d.1 d.2 d.3 d.4) told.sound;
      typed = IfOk-weaker r _ _ (λ s h clean. typed_second db l lays c.in-Second.is (h clean)) told.typed;
      layout = IfOk-weaker r _ _ (λ s h. inl version.tables) told.found;
      no_archive = IfErr-weaker r _ _ (λ e h refused clean. finds_none db FindsSecond version (h refused clean)) told.no_archive;
      trouble = told.trouble;
      cause = told.cause;
      unchanged = told.unchanged;
      crash = IfOk-weaker r _ _ (λ s h. leaves_version g.S.Store c.args.conn s.conn FindsSecond version h) told.crash;
      crash_refused = IfErr-weaker r _ _ (λ e h. leaves_version g.S.Store c.args.conn e.1 FindsSecond version h) told.crash_refused;
    }

pub returns-in-First : goal.returns-in-First
returns-in-First g c =
    let db = (state g.S.Store c.args.conn).now in
    let l = c.layout_of.result in
    let lays = lays_at c.schema.result.now db.schema l c.schema.ensures.value c.layout_of.ensures.is c.layout_of.ensures.empty
    c.layout_of.ensures.first c.layout_of.ensures.first_with_dues c.layout_of.ensures.second in
    let version = is_first db l lays c.in-First.is in
    let r = c.adopt_version-in-First.result in
    let told = c.adopt_version-in-First.ensures in
    record {
      empty = IfOk-weaker r _ _ (λ s h clean free. absurd (version.named free.none)) told.found;
      found = IfOk-weaker r _ _ (λ s h clean (a : Archive) rows keyed. h clean a (version.only a rows) keyed) told.found;
      reopened = IfOk-weaker r _ _ (λ s h clean (a : Archive) left archive.
          h clean a (version.only a (rows_left db a left)) (keyed_of a archive)) told.found;
      sound = IfOk-weaker r _ _ (λ s h clean has. let d = first_reads db l lays c.in-First.is has in h clean d.0 d.1 d.2 d.3) told.sound;
      typed = IfOk-weaker r _ _ (λ s h clean. typed_first db l lays c.in-First.is (h clean)) told.typed;
      layout = IfOk-weaker r _ _ (λ s h. inl version.tables) told.found;
      no_archive = IfErr-weaker r _ _ (λ e h refused clean. finds_none db FindsFirst version (h refused clean)) told.no_archive;
      trouble = told.trouble;
      cause = told.cause;
      unchanged = told.unchanged;
      crash = IfOk-weaker r _ _ (λ s h. leaves_version g.S.Store c.args.conn s.conn FindsFirst version h) told.crash;
      crash_refused = IfErr-weaker r _ _ (λ e h. leaves_version g.S.Store c.args.conn e.1 FindsFirst version h) told.crash_refused;
    }
