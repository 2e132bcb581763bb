use Rattle.std.proofs.Common.{◌≡◌, ◌++◌, drop, flat_map}
use Rattle.cli_texts.specs.Lines.{hold_words}
use Rattle.cli_texts.proofs.records.put_holds.Given as goal

abbrev pub invariant-loop-name : goal.invariant-loop-name
invariant-loop-name l =
    l.line ++ flat_map (λ h. hold_words h.items) (drop l.name-index l.holds) ≡ l.initial.line ++ flat_map (λ h. hold_words h.items) l.holds
