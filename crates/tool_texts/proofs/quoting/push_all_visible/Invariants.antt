use Rattle.std.proofs.Common.{◌≡◌, ◌++◌, false, string_bytes}
use Rattle.std.specs.Str.{encode_utf8_all}
use Rattle.tool_texts.specs.Quoting.{visible_after}
use Rattle.tool_texts.proofs.Pushes.{visible_last}
use Rattle.tool_texts.proofs.quoting.push_all_visible.Given as goal

abbrev pub invariant-loop-c : goal.invariant-loop-c
invariant-loop-c l = record {
  same : string_bytes l.text ≡ string_bytes l.initial.text ++ encode_utf8_all (visible_after false l.yielded);
  plain : l.after_plain ≡ visible_last false l.yielded;
}
