use Rattle.std.proofs.Common.{◌≡◌, map, take}
use Rattle.tool_places.specs.Places.{place_at}
use Rattle.tool_places.proofs.places.places_of.Given as goal

abbrev pub invariant-loop-offset : goal.invariant-loop-offset
invariant-loop-offset l = record {
  at : l.stop.place ≡ place_at l.text l.stop.offset;
  told : l.places.items ≡ map (place_at l.text) (take l.offset-index l.offsets);
}
