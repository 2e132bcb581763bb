use Rattle.std.proofs.Common.{◌≡◌, ◌≤◌, ◌++◌, string_bytes}
use Rattle.std.specs.Char.Escape.{escape_ascii}
use Rattle.std.specs.Char.Iter.{escape_byte_rest, escape_byte_end}
use Rattle.std.specs.Str.{encode_utf8_all}
use Rattle.cli_texts.proofs.escapes.push_octet.Given as goal

abbrev pub invariant-loop-shown : goal.invariant-loop-shown
invariant-loop-shown l = record {
  same : string_bytes l.text ++ encode_utf8_all (escape_byte_rest l.shown-iterator)
      ≡ string_bytes l.initial.text ++ encode_utf8_all (escape_ascii l.octet);
  fits : escape_byte_end l.shown-iterator ≤ 4;
}
