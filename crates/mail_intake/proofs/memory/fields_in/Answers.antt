use Rattle.std.proofs.Common.{rules}
use Rattle.std.specs.Prelude.{ℕ, ◌==◌}
use Rattle.std.proofs.lemmas.Iterator.Consumers.{map_from_collect}
use Rattle.std.proofs.lemmas.Iterator.Splits.{YieldsList-from_slice_split}
use Rattle.mail_intake.proofs.memory.fields_in.Goals as goal

pub returns : goal.returns
returns c =
    map_from_collect _ c.collect.ensures.ran
    (YieldsList-from_slice_split _ (λ (o : ℕ). o == 0) c.args.octets.now c.split.ensures.rest c.split.ensures.done c.split.ensures.closure
    (λ x b q h. search rules))
