use Rattle.std.proofs.Common.{◌≡◌, ◌++◌, drop, map}
use Rattle.serde_json.specs.View.{view}
use Rattle.cli_texts.specs.Json.{shown_value}
use Rattle.cli_texts.proofs.events.texts_value.Given as goal

abbrev pub invariant-loop-text : goal.invariant-loop-text
invariant-loop-text l =
    map view l.values.items ++ map shown_value (map (λ t. t.now) (drop l.text-index l.texts)) ≡ map shown_value (map (λ t. t.now) l.texts)
