use Rattle.tool_places.proofs.HeadLemmas.{heads_named}
use Rattle.tool_places.proofs.laws.heads_are_named.Goals as goal

pub returns : goal.returns
returns c = heads_named
