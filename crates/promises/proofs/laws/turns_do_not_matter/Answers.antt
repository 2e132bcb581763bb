use Rattle.promises.proofs.Sessions.{sessions}
use Rattle.promises.proofs.laws.turns_do_not_matter.Goals as goal

pub returns : goal.returns
returns c = λ s x. sessions s x.commands x.answers x.new x.run
