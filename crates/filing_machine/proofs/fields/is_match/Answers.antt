use Rattle.filing_machine.proofs.ShortLemmas.{short_fails}
use Rattle.filing_machine.proofs.fields.is_match.Goals as goal

pub returns-in-Is : goal.returns-in-Is
returns-in-Is c =
    short_fails c.args.comparator c.args.key.now c.args.value.now c.if-is_shorter.true c.args.match_type c.in-Is.is
