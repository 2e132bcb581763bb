use Rattle.record_choice.proofs.QuestionLaws.{walk_joins}
use Rattle.record_choice.proofs.pages.walks_join.Goals as goal

pub returns : goal.returns
returns c = walk_joins
