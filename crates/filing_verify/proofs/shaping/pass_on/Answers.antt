use Rattle.std.proofs.Common.{ap, ◌∙◌, sym, arith, Some}
use Rattle.std.proofs.lemmas.Option.{slice_get-get_or}
use Rattle.filing_verify.specs.Passes.{Has}
use Rattle.filing_verify.proofs.Tables.{lacks, too_deep, clashes, passed_on}
use Rattle.filing_verify.proofs.shaping.pass_on.Goals.{After-copy-shape}
use Rattle.filing_verify.proofs.shaping.pass_on.Goals as goal

-- the shape of the place is that of the table
here : (c : After-copy-shape) → Has c.args.table.now c.args.place c.copy-shape.result
here c =
    slice_get-get_or c.args.table.now c.args.place c.index-table-place.result (omega (arith, c.requires.so_far.long, c.requires.within))
    ∙ ap Some (c.in-Some.is ∙ ap Some (sym c.copy-shape.ensures))

pub returns-then-not-apply-clause-refused : goal.returns-then-not-apply-clause-refused
returns-then-not-apply-clause-refused c = λ _ shapes.
    let at = (goal.at.returns-then-not-apply-clause-refused c).After-copy-shape in
    lacks c.requires.forward c.requires.so_far (here at) c.operation_at-operation.ensures
    (c.apply.ensures.lacks c.if-not-apply.true) shapes

pub returns-then-depth-gt32-clause-refused : goal.returns-then-depth-gt32-clause-refused
returns-then-depth-gt32-clause-refused c = λ _ shapes.
    let at = (goal.at.returns-then-depth-gt32-clause-refused c).After-copy-shape in
    too_deep c.requires.forward c.requires.so_far (here at) c.operation_at-operation.ensures
    (c.apply.ensures.finds c.if-not-apply.false) (rw c.depth.ensures at c.if-depth-gt32.true) shapes

pub returns-clause-passed : goal.returns-clause-passed
returns-clause-passed c = λ t.
    let at = (goal.at.returns-clause-passed c).After-copy-shape in
    passed_on c.requires.forward c.requires.so_far (here at) c.operation_at-operation.ensures
    (c.apply.ensures.finds c.if-not-apply.false) (rw c.depth.ensures at c.if-depth-gt32.false) (c.offer_successors.ensures.taken t)

pub returns-clause-refused : goal.returns-clause-refused
returns-clause-refused c = λ t shapes.
    let at = (goal.at.returns-clause-refused c).After-copy-shape in
    clashes c.requires.forward c.requires.so_far (here at) c.operation_at-operation.ensures
    (c.apply.ensures.finds c.if-not-apply.false) (c.offer_successors.ensures.refused t) shapes
