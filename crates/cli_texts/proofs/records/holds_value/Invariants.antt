use Rattle.std.proofs.Common.{◌≡◌, ◌++◌, drop, map}
use Rattle.serde_json.specs.View.{view}
use Rattle.cli_texts.specs.Json.{shown_value}
use Rattle.cli_texts.proofs.records.holds_value.Given as goal

abbrev pub invariant-loop-name : goal.invariant-loop-name
invariant-loop-name l =
    map view l.names.items ++ map shown_value (map (λ h. h.items) (drop l.name-index l.holds)) ≡ map shown_value (map (λ h. h.items) l.holds)
