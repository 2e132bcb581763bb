use Rattle.std.proofs.Common.{◌≡◌, ◌++◌, ◌∷◌, drop, map, flat_map, string_bytes}
use Rattle.cli_texts.specs.Rows.{shown_octets}
use Rattle.cli_texts.proofs.rows.push_more_names.Given as goal

abbrev pub invariant-loop-name : goal.invariant-loop-name
invariant-loop-name l =
    string_bytes l.names ++ flat_map (λ m. 32 ∷ shown_octets m) (map (λ h. h.items) (drop l.name-index l.holds))
    ≡ string_bytes l.initial.names ++ flat_map (λ m. 32 ∷ shown_octets m) (map (λ h. h.items) l.holds)
