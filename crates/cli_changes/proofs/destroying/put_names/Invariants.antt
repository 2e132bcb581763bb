use Rattle.std.proofs.Common.{◌≡◌, ◌++◌, drop, flat_map}
use Rattle.cli_changes.specs.ReasonLines.{hold_words}
use Rattle.cli_changes.proofs.destroying.put_names.Given as goal

abbrev pub invariant-loop-name : goal.invariant-loop-name
invariant-loop-name l = l.text ++ flat_map hold_words (drop l.name-index l.names) ≡ l.initial.text ++ flat_map hold_words l.names
