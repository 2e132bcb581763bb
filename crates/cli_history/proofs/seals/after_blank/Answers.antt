use Rattle.cli_history.proofs.BlankLemmas.{behind_found, behind_none}
use Rattle.cli_history.proofs.seals.after_blank.Goals as goal

pub returns-in-Some : goal.returns-in-Some
returns-in-Some c = behind_found c.args.text.now c.in-Some.blank c.in-Some.ensures

pub returns-in-None : goal.returns-in-None
returns-in-None c = behind_none c.args.text.now c.in-None.ensures
