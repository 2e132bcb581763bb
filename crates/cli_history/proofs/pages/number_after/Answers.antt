use Rattle.std.proofs.Common.{◌∙◌, ap, sym}
use Rattle.std.specs.Option.{option_copied}
use Rattle.cli_history.proofs.WalkLemmas.{behind_none, behind_some}
use Rattle.cli_history.proofs.pages.number_after.Goals as goal

pub returns-in-Some : goal.returns-in-Some
returns-in-Some c =
    let last = sym (ap option_copied c.in-Some.is) ∙ c.last.ensures.value in
    behind_some c.args.page.now c.in-Some.last.now c.checked_add.result last c.checked_add.ensures

pub returns-in-None : goal.returns-in-None
returns-in-None c = behind_none c.args.page.now (sym (ap option_copied c.in-None.is) ∙ c.last.ensures.value)
