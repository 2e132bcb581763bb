use Rattle.std.proofs.Common.{◌≡◌, ◌∙◌, ◌∷◌, [], ◌-◌, take, sym, ap, map}
use Rattle.std.proofs.lemmas.List.{append-nil, map-append}
use Rattle.record_archive.specs.Archive.{Archive}
use Rattle.record_choice.specs.Entries.{entry_view}
use Rattle.record_choice.proofs.Judged.{numbered_found}
use Rattle.record_choice.proofs.PageLaws.{entry_missing}
use Rattle.record_choice.proofs.reasons.find_entry.Goals as goal

pub returns-in-Some-clause-told : goal.returns-in-Some-clause-told
returns-in-Some-clause-told g c = λ clean (a : Archive) s.
    let rest = c.pop.new.self.items in
    let e = c.in-Some.entry in
    numbered_found a (g.met.R.Repository.is_archive c.args.records.now a s) c.args.number (map entry_view rest) e
    (sym (map-append entry_view rest (e ∷ []))
    ∙ ap (map entry_view) (sym (rw c.in-Some.is at c.pop.ensures.items)) ∙ c.in_ok-entries.ensures.told clean a s)
    c.if_numbered.result c.if_numbered.ensures

pub returns-clause-told : goal.returns-clause-told
returns-clause-told g c = λ clean (a : Archive) s.
    let items = c.in_ok-entries.entries.items in
    let gone = rw c.in-None.is at c.pop.ensures.cases in
    let none : items ≡ [] =
    rw c.in-None.is at c.pop.ensures.items ∙ append-nil c.pop.new.self.items ∙ c.pop.ensures.rest ∙ ap (λ k. take (k - 1) items) gone.0 in
    entry_missing a (g.met.R.Repository.is_archive c.args.records.now a s) c.args.number
    (ap (map entry_view) (sym none) ∙ c.in_ok-entries.ensures.told clean a s)
