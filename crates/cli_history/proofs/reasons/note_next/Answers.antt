use Rattle.std.proofs.Common.{◌≡◌, ◌∷◌, [], ℕ, List, None, Result, Ok, map, rules, subst}
use Rattle.record_history.specs.Views.{deed_view}
use Rattle.record_noted.specs.Additions.{NotesLines}
use Rattle.record_store.specs.Faults.{StoreFault}
use Rattle.cli_history.proofs.OpeningLemmas.{told_by_author}
use Rattle.cli_history.proofs.reasons.note_next.Goals as goal

pub returns-in-Ok-clause-notes : goal.returns-in-Ok-clause-notes
returns-in-Ok-clause-notes g c =
    let line = c.in_ok-line.line.items in
    let told : map (λ l. l.items) c.as_slice.result.now ≡ line ∷ [] = search rules in
    record {
      number_is = c.next-number.ensures;
      line = line;
      by_author = told_by_author c.args.author.now None c.in_ok-occasion.occasion c.next-number.result (deed_view c.args.deed) line
          c.in_ok-line.ensures c.in_ok-occasion.ensures;
      noted = subst (λ (ls : List (List ℕ)). let done : Result Unit StoreFault = Ok tt in
          NotesLines g.S.Store c.args.noted.now c.note_all.new.self done ls) told c.in-Ok.ensures;
    }
