use Rattle.std.proofs.Common.{◌≡◌, ◌∙◌, ◌∷◌, ℕ, List, [], sym, ap, map, arith}
use Rattle.std.proofs.lemmas.Bool.Decides.{nat_tests}
use Rattle.std.proofs.lemmas.List.{map-append}
use Rattle.record_archive.specs.Archive.{Archive}
use Rattle.record_choice.specs.Entries.{entry_view}
use Rattle.record_choice.proofs.PageLaws.{entry_found}
use Rattle.record_noted.proofs.ReadingLemmas.{passed_with}
use Rattle.record_noted.proofs.store.NotedStore.entry.Goals as goal

pub returns-in-Some : goal.returns-in-Some
returns-in-Some g c = record {
  tells = λ (a : Archive) (ls : List (List ℕ)) s clean.
      let read = c.in_ok-entries.ensures.tells a ls s clean in
      let rest = c.pop.new.self.items in
      let e = c.in-Some.entry in
      let own : e.number ≡ c.args.number = grind (arith, nat_tests, c.if-pop-number.true) in
      entry_found a s.stands.archive c.args.number (map entry_view rest) (entry_view e)
      (sym (map-append entry_view rest (e ∷ [])) ∙ ap (map entry_view) (sym (rw c.in-Some.is at c.pop.ensures.items)) ∙ read) own;
  lines = c.entries.ensures.lines;
  falls = c.entries.ensures.falls;
  crash = c.entries.ensures.crash;
}

pub returns : goal.returns
returns g c = record {
  tells = λ (a : Archive) (ls : List (List ℕ)) s clean r is. cc;
  lines = c.entries.ensures.lines;
  falls = c.entries.ensures.falls;
  crash = c.entries.ensures.crash;
}

pub returns-in_err-entries : goal.returns-in_err-entries
returns-in_err-entries g c =
    passed_with g.S.Store c.args.self.now c.entries.new.self c.from_residual.result c.in_err-entries.field-0.0 _ _ c.from_residual.ensures.0
    c.from_residual.ensures.1
    (λ (a : Archive) (ls : List (List ℕ)) s clean r is. absurd (c.in_err-entries.ensures.tells a ls s clean r is))
    c.entries.ensures.lines c.entries.ensures.falls c.entries.ensures.crash
