use Rattle.std.proofs.Common.{◌≡◌, ◌++◌, flat_map, string_bytes}
use Rattle.std.specs.Str.{encode_utf8_all}
use Rattle.cli_page.specs.Marks.{read_of}
use Rattle.cli_page.proofs.marks.push_all_read.Given as goal

abbrev pub invariant-loop-c : goal.invariant-loop-c
invariant-loop-c l = string_bytes l.key ≡ string_bytes l.initial.key ++ encode_utf8_all (flat_map read_of l.yielded)
