use Rattle.std.proofs.Common.{rules, tests}
use Rattle.tool_texts.specs.Quoting.{is_bare_octet}
use Rattle.std.proofs.lemmas.Iterator.{YieldsList-from_slice}
use Rattle.std.proofs.lemmas.Iterator.Search.{all_from_yields_List}
use Rattle.tool_texts.proofs.quoting.are_bare.Goals as goal

pub returns : goal.returns
returns c = all_from_yields_List is_bare_octet _ _ _ c.all.ensures.ran (YieldsList-from_slice c.args.octets.now cc) (λ x b q k. search (rules, tests))
