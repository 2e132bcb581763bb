use Rattle.std.proofs.Common.{rules}
use Rattle.std.specs.Prelude.{ℕ, ◌==◌}
use Rattle.std.proofs.lemmas.Iterator.Consumers.{map_from_collect}
use Rattle.std.proofs.lemmas.Iterator.Splits.{YieldsList-from_slice_split}
use Rattle.record_history.specs.Reading.{parts_at}
use Rattle.record_history.proofs.words.semicolon_parts.Goals as goal

pub returns : goal.returns
unfolding parts_at
returns c =
    map_from_collect _ c.collect.ensures.ran
    (YieldsList-from_slice_split _ (λ (o : ℕ). o == 59) c.args.text.now c.split.ensures.rest c.split.ensures.done c.split.ensures.closure
    (λ x b q h. search rules))
