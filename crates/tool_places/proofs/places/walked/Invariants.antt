use Rattle.std.proofs.Common.{◌≡◌}
use Rattle.tool_places.specs.Places.{place_at}
use Rattle.tool_places.proofs.places.walked.Given as goal

abbrev pub invariant-loop-index : goal.invariant-loop-index
invariant-loop-index l = l.place ≡ place_at l.text l.index
