use Rattle.std.proofs.Common.{◌∙◌, ℕ, List, Option, None, ap, map, sym, subst, arith}
use Rattle.std.proofs.lemmas.List.{nil_from_length}
use Rattle.record_archive.specs.Archive.{Archive}
use Rattle.record_choice.specs.Entries.{entry_view}
use Rattle.record_choice.specs.Walks.{above, last_of, records_after}
use Rattle.cli_history.specs.Walks.{GoesOnIn}
use Rattle.cli_history.proofs.EntryLemmas.{entries_next, entries_none}
use Rattle.cli_history.proofs.pages.Entries.next_page.Goals as goal

pub returns-in_default-clause-page : goal.returns-in_default-clause-page
returns-in_default-clause-page g c = λ clean (a : Archive) (ls : List (List ℕ)) stands. ap (records_after a) c.in_default.is

pub returns-then-is_empty-clause-page : goal.returns-then-is_empty-clause-page
returns-then-is_empty-clause-page g c = λ clean (a : Archive) (ls : List (List ℕ)) stands.
    ap (records_after a) c.in-Some.is
    ∙ entries_none a c.in-Some.from c.in-Ok.page.items (c.in-Ok.ensures.tells a ls stands clean)
    (nil_from_length c.in-Ok.page.items (grind (arith, c.is_empty.ensures, c.if-is_empty.true)))

pub returns-clause-page : goal.returns-clause-page
returns-clause-page g c = λ clean (a : Archive) (ls : List (List ℕ)) stands.
    let next = entries_next a stands.stands.archive c.in-Some.from c.in-Ok.page.items (c.in-Ok.ensures.tells a ls stands clean) in
    let up = c.number_above-self.ensures ∙ ap (λ items. above (last_of None (map entry_view items))) c.as_slice.ensures.value in
    subst (λ (after : Option ℕ). GoesOnIn a c.args.self.now.from after c.in-Ok.page.items) (sym up)
    (subst (λ (before : Option ℕ). GoesOnIn a before (above (last_of None (map entry_view c.in-Ok.page.items))) c.in-Ok.page.items)
    (sym c.in-Some.is) next)
