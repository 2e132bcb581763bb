use Rattle.std.proofs.Common.{◌≡◌, flat_map, string_bytes}
use Rattle.cli_texts.specs.Json.{ascii_of}
use Rattle.cli_texts.proofs.json.in_ascii.Given as goal

abbrev pub invariant-loop-c : goal.invariant-loop-c
invariant-loop-c l = string_bytes l.ascii ≡ flat_map ascii_of l.yielded
