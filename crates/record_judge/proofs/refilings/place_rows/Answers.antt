use Rattle.std.proofs.Common.{◌∙◌, ap, set, get_or, map}
use Rattle.record_judge.specs.Refilings.{placed}
use Rattle.record_judge.specs.Sealed.{record_view}
use Rattle.record_judge.proofs.RefilingLemmas.{only_placed}
use Rattle.record_judge.proofs.refilings.place_rows.Goals as goal

pub returns : goal.returns
returns c = λ kept.
    let rows = c.args.rows.now in
    let i = c.in-Some.place in
    only_placed c.args.index.now rows c.place_row.new.rows i c.args.number c.args.path.now kept c.in-Some.ensures.place c.in-Some.ensures.alone
    (λ d. c.place_row.ensures d
    ∙ ap (λ q. set (map record_view rows) i (placed c.args.number q (record_view (get_or rows i d)))) c.in_ok-copy.ensures.items)
