use Rattle.std.proofs.Common.{◌++◌, ◌∷◌, ◌∙◌, ◌≡◌, [], subst, sym}
use Rattle.std.specs.Prelude.{IfSome}
use Rattle.cli_page.specs.KeptNumbers.{numbers_in}
use Rattle.cli_page.proofs.KeptLemmas.{same_volume}
use Rattle.cli_page.proofs.holds.Stretch.with.Goals as goal

pub returns : goal.returns
returns c =
    let same = same_volume c.args.self.volume c.args.volume (sym c.is_of.ensures ∙ c.if-not-is_of.false) in
    subst (λ v. IfSome c.next.result (λ s. numbers_in s ≡ numbers_in c.args.self ++ (v, c.args.number) ∷ [])) same c.next.ensures
