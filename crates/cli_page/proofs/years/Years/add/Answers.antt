use Rattle.std.proofs.Common.{rules}
use Rattle.cli_page.proofs.CountLemmas.{adds_one}
use Rattle.cli_page.proofs.years.Years.add.Goals as goal

pub returns-clause-ok : goal.returns-clause-ok
returns-clause-ok c =
    adds_one c.args.day c.args.due c.args.self.now.years.items c.from-place.result c.index-year.result.now c.in_ok-self.field-0
    (search rules) (search rules) (search rules) (search rules)
