use Rattle.std.proofs.Common.{◌≡◌, ◌-◌, ◌∙◌, false, Some, None, arith, length, map, slice_get, sym, ap}
use Rattle.std.specs.List.{list_any}
use Rattle.std.proofs.lemmas.List.{length-map}
use Rattle.std.proofs.lemmas.Grind.{common_steps}
use Rattle.record_archive.specs.Archive.{Archive}
use Rattle.record_tables.specs.CodeRows.{record_of, hold_entry_of}
use Rattle.record_adoption.specs.Counts.{count_at}
use Rattle.record_store.specs.Entries.{is_counted}
use Rattle.record_store.proofs.EntryLemmas.{between_are, none_on}
use Rattle.record_store.proofs.EntryReads.{no_last, last_map}
use Rattle.record_store.proofs.store.Store.holds_on.Goals as goal

pub returns-clause-tells : goal.returns-clause-tells
returns-clause-tells g c = λ (a : Archive) s.
    let one = c.in_ok-holds.ensures.tells a s in
    let rows = c.args.rows.now in
    let last : Some (record_of c.in-Some.last.now) ≡ slice_get (map record_of rows) (length (map record_of rows) - 1) =
    last_map record_of rows c.in-Some.last.now (length rows - 1) c.in-Some.ensures.value
    ∙ ap (λ n. slice_get (map record_of rows) (n - 1)) (sym (length-map rows record_of)) in
    (one.0, λ clean page. one.1 clean ∙ between_are a s.archive c.args.from (map record_of rows) page (record_of c.in-Some.last.now) last)

pub returns-then-not-is_any_held-clause-tells : goal.returns-then-not-is_any_held-clause-tells
returns-then-not-is_any_held-clause-tells g c = λ (a : Archive) s.
    let none : list_any (is_counted c.args.self.now.held) c.args.rows.now ≡ false = sym c.is_any_held.ensures ∙ c.if-not-is_any_held.true in (
      s,
      λ clean page. ap (map hold_entry_of) c.new-then-not-is_any_held.ensures.items
          ∙ none_on record_of a (count_at c.args.self.now.held) s.held c.args.rows.now none,
    )

pub returns-in_default-clause-tells : goal.returns-in_default-clause-tells
returns-in_default-clause-tells g c = λ (a : Archive) s.
    let no_row : c.last.result ≡ None = grind (arith, common_steps) in
    let empty = no_last c.args.rows.now (rw no_row at c.last.ensures.value) in
    let none : list_any (is_counted c.args.self.now.held) c.args.rows.now ≡ false = ap (list_any (is_counted c.args.self.now.held)) empty in
    (s, λ clean page. ap (map hold_entry_of) c.new.ensures.items ∙ none_on record_of a (count_at c.args.self.now.held) s.held c.args.rows.now none)
