use Rattle.std.proofs.Common.{sym, ◌∙◌}
use Rattle.mail_head.proofs.LineLemmas.{Begun-first, Begun-more, Begun-done, begins_drop, begins_past, header_some, part_from}
use Rattle.mail_head.proofs.lines.logical_len.Goals as goal

pub loop-n-init : goal.loop-n-init
loop-n-init c =
    Begun-first c.args.rest.now c.first_line_len-n.result c.requires c.first_line_len-n.ensures.value
    c.first_line_len-n.ensures.within (c.first_line_len-n.ensures.some (header_some c.args.rest.now c.requires))

pub loop-n-preserved : goal.loop-n-preserved
loop-n-preserved c =
    let part = part_from c.loop-n.n c.args.rest.now in
    Begun-more c.args.rest.now c.loop-n.n c.first_line_len-n-in-loop-n.result c.loop-n.invariant c.loop-n-test.true
    (sym c.is_blank_octet.ensures
    ∙ c.if-is_blank_octet.true) (rw part at c.first_line_len-n-in-loop-n.ensures.value)
    (rw part at c.first_line_len-n-in-loop-n.ensures.within)

pub returns-else-is_blank_octet-clause-value : goal.returns-else-is_blank_octet-clause-value
returns-else-is_blank_octet-clause-value c =
    Begun-done c.args.rest.now c.loop-n.n c.loop-n.invariant
    (begins_drop c.args.rest.now c.loop-n.n 0 c.loop-n-test.true ∙ sym c.is_blank_octet.ensures
    ∙ c.if-is_blank_octet.false)

pub returns-after-loop-n-clause-value : goal.returns-after-loop-n-clause-value
returns-after-loop-n-clause-value c =
    Begun-done c.args.rest.now c.loop-n.n c.loop-n.invariant (begins_past c.args.rest.now c.loop-n.n c.loop-n-test.false)
