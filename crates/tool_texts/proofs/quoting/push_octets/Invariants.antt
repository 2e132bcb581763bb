use Rattle.std.proofs.Common.{◌≡◌, ◌++◌, drop, string_bytes}
use Rattle.std.specs.Prelude.{flat_map}
use Rattle.std.specs.Str.{encode_utf8_all}
use Rattle.tool_texts.specs.Quoting.{octet_text}
use Rattle.tool_texts.proofs.quoting.push_octets.Given as goal

abbrev pub invariant-loop-octet : goal.invariant-loop-octet
invariant-loop-octet l =
    string_bytes l.text ++ encode_utf8_all (flat_map octet_text (drop l.octet-index l.octets))
    ≡ string_bytes l.initial.text ++ encode_utf8_all (flat_map octet_text l.octets)
