use Rattle.std.proofs.Common.{◌≡◌, ◌++◌, flat_map, string_bytes}
use Rattle.std.specs.Str.{encode_utf8_all}
use Rattle.cli_page.specs.Escaping.{path_shown_of}
use Rattle.cli_page.proofs.escaping.push_path.Given as goal

abbrev pub invariant-loop-c : goal.invariant-loop-c
invariant-loop-c l = string_bytes l.page ≡ string_bytes l.initial.page ++ encode_utf8_all (flat_map path_shown_of l.yielded)
