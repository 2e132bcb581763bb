use Rattle.std.proofs.Common.{◌≡◌, ◌∙◌, ◌++◌, ap, false, refl, sym, true}
use Rattle.std.proofs.lemmas.List.{append-nil}
use Rattle.record_choice.specs.Entries.{entry_view}
use Rattle.cli_changes.specs.Refilings.{moves}
use Rattle.cli_changes.proofs.LookingLaws.{one_number}
use Rattle.cli_changes.proofs.refile.Movers.look_at.Goals as goal

pub returns-then-gets : goal.returns-then-gets
returns-then-gets c =
    let old = c.args.self.now in
    let test = moves old.to.now in
    let v = entry_view c.args.entry.now in
    let is : test v ≡ true = sym c.gets.ensures ∙ c.if-gets.true in
    record {
      to = refl;
      numbers = c.in_ok-push.ensures.items ∙ ap (λ l. old.numbers.items ++ l) (sym (one_number test v true is));
    }

pub returns : goal.returns
returns c =
    let old = c.args.self.now in
    let test = moves old.to.now in
    let v = entry_view c.args.entry.now in
    let is : test v ≡ false = sym c.gets.ensures ∙ c.if-gets.false in
    record {
      to = refl;
      numbers = sym (ap (λ l. old.numbers.items ++ l) (one_number test v false is) ∙ append-nil old.numbers.items);
    }
