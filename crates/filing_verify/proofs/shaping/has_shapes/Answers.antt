use Rattle.std.proofs.Common.{◌≡◌, length, arith}
use Rattle.filing_verify.specs.Passes.{Shaping}
use Rattle.filing_verify.proofs.Tables.{has_shapes}
use Rattle.filing_verify.proofs.shaping.has_shapes.Goals as goal

pub returns-clause-yes : goal.returns-clause-yes
returns-clause-yes c = λ _.
    let end : c.loop-place.place ≡ length c.args.image.now.code = omega arith in
    let all : Shaping c.args.image.now (length c.args.image.now.code) c.loop-place.table.items = rw (← end) c.loop-place.invariant in
    has_shapes all
