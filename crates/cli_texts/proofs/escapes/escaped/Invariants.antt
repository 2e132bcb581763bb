use Rattle.std.proofs.Common.{◌≡◌, ◌++◌, drop, string_bytes}
use Rattle.cli_texts.specs.Rows.{escapes}
use Rattle.cli_texts.proofs.escapes.escaped.Given as goal

abbrev pub invariant-loop-octet : goal.invariant-loop-octet
invariant-loop-octet l = string_bytes l.text ++ escapes (drop l.octet-index l.octets) ≡ escapes l.octets
