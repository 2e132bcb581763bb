use Rattle.std.proofs.Common.{rules, tests}
use Rattle.std.proofs.lemmas.Iterator.Search.{any_from_yields_List}
use Rattle.std.proofs.lemmas.Iterator.Splits.{YieldsList-from_slice_split}
use Rattle.choice_words.specs.Readings.{is_comma, is_counted}
use Rattle.choice_words.proofs.readings.has_numbers.Goals as goal

pub returns : goal.returns
returns c =
    any_from_yields_List (is_counted c.args.with_volumes) _ _ _ c.any.ensures.ran
    (YieldsList-from_slice_split _ is_comma c.args.word.now c.split.ensures.rest c.split.ensures.done c.split.ensures.closure
    (λ x r q k. search (rules, tests))) (λ x b q k. search (rules, tests))
