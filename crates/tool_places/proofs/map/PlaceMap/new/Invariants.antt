use Rattle.std.proofs.Common.{◌≡◌}
use Rattle.std.specs.Prelude.{All}
use Rattle.tool_places.specs.Places.{place_at}
use Rattle.tool_places.proofs.map.PlaceMap.new.Given as goal

abbrev pub invariant-loop-chunk : goal.invariant-loop-chunk
invariant-loop-chunk l = record {
  at : l.stop.place ≡ place_at l.text l.stop.offset;
  right : All (λ stop. stop.place ≡ place_at l.text stop.offset) l.stops.items;
}
