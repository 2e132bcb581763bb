use Rattle.std.proofs.Common.{◌∙◌, sym, ap, arith, map, rules}
use Rattle.record_archive.specs.Archive.{Archive}
use Rattle.record_choice.specs.Entries.{entry_view}
use Rattle.record_choice.proofs.Keepers.{page_finds, page_goes_on}
use Rattle.record_choice.proofs.destruction.look_on.Goals as goal

pub returns-in-Some-clause-told : goal.returns-in-Some-clause-told
returns-in-Some-clause-told g c = λ clean (a : Archive) s.
    let are = ap (map entry_view) c.as_slice.ensures.value ∙ c.in_ok-page.ensures.told clean a s in
    page_finds a c.args.message c.args.number c.args.from 16 _ c.in-Some.keeper are (sym c.in-Some.is ∙ c.keeper_in.ensures)

pub returns-clause-told : goal.returns-clause-told
returns-clause-told g c = λ clean (a : Archive) s.
    let are = ap (map entry_view) c.as_slice.ensures.value ∙ c.in_ok-page.ensures.told clean a s in
    rw c.search_after.ensures
    (page_goes_on a (g.met.R.Repository.is_archive c.args.records.now a s) c.args.message c.args.number c.args.from 16 (omega arith) _
    c.number_after.result are (sym c.in-None.is ∙ c.keeper_in.ensures) (c.number_after.ensures ∙ search rules))
