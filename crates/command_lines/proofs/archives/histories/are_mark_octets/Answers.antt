use Rattle.std.proofs.Common.{rules, tests}
use Rattle.std.proofs.lemmas.Iterator.Search.{all_from_yields_List}
use Rattle.std.proofs.lemmas.Iterator.{YieldsList-from_slice}
use Rattle.command_lines.specs.Stores.{is_mark_octet}
use Rattle.command_lines.proofs.archives.histories.are_mark_octets.Goals as goal

pub returns : goal.returns
returns c = all_from_yields_List is_mark_octet _ _ _ c.all.ensures.ran (YieldsList-from_slice c.args.word.now cc) (λ x b q k. search (rules, tests))
