use Rattle.std.proofs.Common.{◌≡◌, ◌∙◌, map, take, sym, ap, ap₂, subst}
use Rattle.std.specs.List.{AllByRecursion}
use Rattle.std.proofs.lemmas.List.{take-map}
use Rattle.record_archive.specs.Archive.{Archive}
use Rattle.record_tables.specs.CodeRows.{record_of, hold_entry_of}
use Rattle.record_choice.specs.Entries.{entry_of, records_from}
use Rattle.record_store.specs.Entries.{listed_beside, IsPage, IsListableRecord}
use Rattle.record_store.proofs.Causes.{passed_cause}
use Rattle.record_store.proofs.CommandLemmas.{leaves_then, still_then}
use Rattle.record_store.proofs.EntryLemmas.{page_is, limited_is}
use Rattle.record_store.proofs.EntryReads.{page_listable}
use Rattle.record_store.proofs.store.Store.entries.Goals as goal

pub returns-clause-tells : goal.returns-clause-tells
returns-clause-tells g c = λ (a : Archive) s.
    let one = c.in_ok-rows.ensures.tells a s in
    let two = c.in_ok-holds.ensures.tells a one.0 in (
      two.0,
      λ clean.
          let rows = map record_of c.as_slice.result.now in
          let same : map record_of c.in_ok-rows.rows.items ≡ rows = ap (map record_of) (sym c.as_slice.ensures.value) in
          let holds = map hold_entry_of c.in_ok-holds.holds.items in
          let are = sym same ∙ one.1 (c.holds_on.ensures.falls clean) in
          let page : IsPage a c.args.from rows = record { most = _; is = are } in
          c.in_ok-entries.ensures.entries ∙ ap (listed_beside _ _) same
          ∙ ap₂ (λ p l. listed_beside p l rows) two.0.plan (ap (map hold_entry_of) c.as_slice-2.ensures.value)
          ∙ page_is a s.archive c.args.from rows page holds (two.1 clean page)
          ∙ ap (map (entry_of a))
          (are ∙ ap (λ n. take n (records_from a c.args.from)) c.limit_of.ensures ∙ limited_is a s.archive c.args.from c.args.most)
          ∙ sym (take-map (entry_of a) c.args.most (records_from a c.args.from)),
    )

pub returns-clause-crash : goal.returns-clause-crash
returns-clause-crash g c = λ (a : Archive) s.
    leaves_then g.S.Store c.args.self.now c.rows_from.new.self c.holds_on.new.self
    (λ (b : Archive) t. (c.in_ok-rows.ensures.tells b t).0) c.rows_from.ensures.crash (c.in_ok-rows.ensures.open a s) c.holds_on.ensures.crash a s

pub returns-in_err-holds-clause-crash : goal.returns-in_err-holds-clause-crash
returns-in_err-holds-clause-crash g c = λ (a : Archive) s.
    leaves_then g.S.Store c.args.self.now c.rows_from.new.self c.holds_on.new.self
    (λ (b : Archive) t. (c.in_ok-rows.ensures.tells b t).0) c.rows_from.ensures.crash (c.in_ok-rows.ensures.open a s) c.holds_on.ensures.crash a s

pub returns-in_err-holds-clause-cause : goal.returns-in_err-holds-clause-cause
returns-in_err-holds-clause-cause g c =
    passed_cause g.S.Store c.args.self.now c.holds_on.new.self c.from_residual-in_err-holds.result
    c.in_err-holds.field-0.0 c.from_residual-in_err-holds.ensures.1
    (λ (a : Archive) s clean. c.in_err-holds.ensures.cause a (c.in_ok-rows.ensures.tells a s).0 clean)

pub returns-in_err-entries-clause-cause : goal.returns-in_err-entries-clause-cause
returns-in_err-entries-clause-cause g c =
    passed_cause g.S.Store c.args.self.now c.holds_on.new.self c.from_residual-in_err-entries.result
    c.in_err-entries.field-0.0 c.from_residual-in_err-entries.ensures.1
    (λ (a : Archive) s clean.
    c.in_err-entries.ensures.lost (subst (AllByRecursion IsListableRecord)
    (sym ((c.in_ok-rows.ensures.tells a s).1 (c.holds_on.ensures.falls clean)))
    (page_listable a c.args.from c.limit_of.result s.archive)))

pub returns-clause-still : goal.returns-clause-still
returns-clause-still g c =
    still_then g.S.Store c.args.self.now c.rows_from.new.self c.holds_on.new.self (λ (a : Archive) s.
    (c.in_ok-rows.ensures.tells a s).0) c.holds_on.ensures.falls c.rows_from.ensures.still c.holds_on.ensures.still

pub returns-in_err-holds-clause-still : goal.returns-in_err-holds-clause-still
returns-in_err-holds-clause-still g c =
    still_then g.S.Store c.args.self.now c.rows_from.new.self c.holds_on.new.self (λ (a : Archive) s.
    (c.in_ok-rows.ensures.tells a s).0) c.holds_on.ensures.falls c.rows_from.ensures.still c.holds_on.ensures.still

pub returns-in_err-entries-clause-still : goal.returns-in_err-entries-clause-still
returns-in_err-entries-clause-still g c =
    still_then g.S.Store c.args.self.now c.rows_from.new.self c.holds_on.new.self (λ (a : Archive) s.
    (c.in_ok-rows.ensures.tells a s).0) c.holds_on.ensures.falls c.rows_from.ensures.still c.holds_on.ensures.still
