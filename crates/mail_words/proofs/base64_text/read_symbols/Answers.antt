use Rattle.mail_words.specs.Unfolding.{without_line_ends}
use Rattle.mail_words.proofs.Base64Lemmas.{read_part, read_all}
use Rattle.mail_words.proofs.base64_text.read_symbols.Goals as goal

pub returns-in_default-clause-read : goal.returns-in_default-clause-read
returns-in_default-clause-read c =
    (read_all (without_line_ends c.args.text.now) c.loop-count.symbols (without_line_ends c.loop-count.rest.now)
    c.loop-count.count c.loop-count.invariant.read c.in_default.ensures c.loop-count.invariant.within).0

pub returns-in_default-clause-following : goal.returns-in_default-clause-following
returns-in_default-clause-following c =
    (read_all (without_line_ends c.args.text.now) c.loop-count.symbols (without_line_ends c.loop-count.rest.now)
    c.loop-count.count c.loop-count.invariant.read c.in_default.ensures c.loop-count.invariant.within).1

pub returns-clause-read : goal.returns-clause-read
returns-clause-read c =
    (read_part (without_line_ends c.args.text.now) c.loop-count.symbols (without_line_ends c.loop-count.rest.now)
    c.loop-count.count c.loop-count.invariant.read c.loop-count.invariant.within c.loop-count.invariant.long
    c.loop-count-test.false).0

pub returns-clause-following : goal.returns-clause-following
returns-clause-following c =
    (read_part (without_line_ends c.args.text.now) c.loop-count.symbols (without_line_ends c.loop-count.rest.now)
    c.loop-count.count c.loop-count.invariant.read c.loop-count.invariant.within c.loop-count.invariant.long
    c.loop-count-test.false).1
