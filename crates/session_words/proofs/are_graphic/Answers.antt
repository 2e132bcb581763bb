use Rattle.std.proofs.Common.{rules, tests}
use Rattle.session_words.specs.Words.{is_name_octet}
use Rattle.std.proofs.lemmas.Iterator.{YieldsList-from_slice}
use Rattle.std.proofs.lemmas.Iterator.Search.{all_from_yields_List}
use Rattle.session_words.proofs.are_graphic.Goals as goal

pub returns : goal.returns
returns c = all_from_yields_List is_name_octet _ _ _ c.all.ensures.ran (YieldsList-from_slice c.args.word.now cc) (λ x b q k. search (rules, tests))
