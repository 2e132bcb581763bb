use Rattle.std.proofs.Common.{◌≡◌, ◌++◌, drop, flat_map, string_bytes}
use Rattle.cli_texts.specs.Json.{unit_escape}
use Rattle.cli_texts.proofs.json.push_units.Given as goal

abbrev pub invariant-loop-unit : goal.invariant-loop-unit
invariant-loop-unit l =
    string_bytes l.text ++ flat_map unit_escape (drop l.unit-index l.units) ≡ string_bytes l.initial.text ++ flat_map unit_escape l.units
