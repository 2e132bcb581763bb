use Rattle.std.proofs.Common.{◌≡◌, drop}
use Rattle.sieve_check.specs.Context.{set_after}
use Rattle.sieve_check.proofs.capability_set.CapabilitySet.after_texts.Given as goal

abbrev pub invariant-loop-text : goal.invariant-loop-text
invariant-loop-text l = set_after l.named (drop l.text-index l.texts) ≡ set_after l.fn.self l.texts
