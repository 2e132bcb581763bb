use Rattle.std.proofs.Common.{◌≡◌, ◌∙◌, ◌++◌, ap, false, refl, rules, sym, tests, true}
use Rattle.std.proofs.lemmas.List.{append-nil}
use Rattle.record_choice.specs.Entries.{entry_view}
use Rattle.cli_choice.specs.Holds.{is_meant}
use Rattle.cli_changes.proofs.LookingLaws.{one_number}
use Rattle.cli_changes.proofs.holds.Meant.look_at.Goals as goal

pub returns-then-is_meant : goal.returns-then-is_meant
returns-then-is_meant c =
    let old = c.args.self.now in
    let test = is_meant old.change old.name.now old.typed.now in
    let v = entry_view c.args.entry.now in
    let is : test v ≡ true = search (rules, tests) in
    record {
      change = refl;
      name = refl;
      typed = refl;
      numbers = c.in_ok-push.ensures.items ∙ ap (λ l. old.numbers.items ++ l) (sym (one_number test v true is));
    }

pub returns : goal.returns
returns c =
    let old = c.args.self.now in
    let test = is_meant old.change old.name.now old.typed.now in
    let v = entry_view c.args.entry.now in
    let is : test v ≡ false = search (rules, tests) in
    record {
      change = ap (λ m. m.change) c.pass_over.ensures;
      name = ap (λ m. m.name.now) c.pass_over.ensures;
      typed = ap (λ m. m.typed.now) c.pass_over.ensures;
      numbers = ap (λ m. m.numbers.items) c.pass_over.ensures
          ∙ sym (ap (λ l. old.numbers.items ++ l) (one_number test v false is) ∙ append-nil old.numbers.items);
    }
