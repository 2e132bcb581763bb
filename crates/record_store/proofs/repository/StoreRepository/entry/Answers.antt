use Rattle.std.proofs.Common.{◌≡◌, ◌∙◌, ◌∷◌, [], sym, ap, map, arith}
use Rattle.std.proofs.lemmas.Bool.Decides.{nat_tests}
use Rattle.std.proofs.lemmas.List.{map-append}
use Rattle.record_archive.specs.Archive.{Archive}
use Rattle.record_choice.specs.Entries.{entry_view}
use Rattle.record_choice.proofs.PageLaws.{entry_found}
use Rattle.record_store.proofs.repository.StoreRepository.entry.Goals as goal

pub returns-in-Some-clause-told : goal.returns-in-Some-clause-told
returns-in-Some-clause-told g c = λ clean (a : Archive) s.
    let rest = c.pop.new.self.items in
    let e = c.in-Some.entry in
    let own : e.number ≡ c.args.number = grind (arith, nat_tests, c.if-pop-number.true) in
    entry_found a s.archive c.args.number (map entry_view rest) (entry_view e)
    (sym (map-append entry_view rest (e ∷ [])) ∙ ap (map entry_view) (sym (rw c.in-Some.is at c.pop.ensures.items))
    ∙ (c.in_ok-entries.ensures.tells a s).1 clean) own
