use Rattle.promises.proofs.BlindTests.{same_truth}
use Rattle.promises.proofs.questions.tests_see_no_class.Goals as goal

pub returns : goal.returns
returns c = same_truth
