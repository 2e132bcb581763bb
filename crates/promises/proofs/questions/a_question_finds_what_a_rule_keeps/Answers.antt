use Rattle.promises.proofs.KeptByRules.{finds_what_is_kept}
use Rattle.promises.proofs.questions.a_question_finds_what_a_rule_keeps.Goals as goal

pub returns : goal.returns
returns c = finds_what_is_kept
