use Rattle.std.proofs.Common.{◌∙◌, ap, codes, map}
use Rattle.std.specs.Prelude.{flat_map}
use Rattle.command_lines.specs.Tables.{app_over, shape_of_table}
use Rattle.command_lines.proofs.StoreLemmas.{store_app_of}
use Rattle.command_lines.proofs.archives.words.program.Goals as goal

pub returns : goal.returns
returns c =
    let shared = c.conditions.result.now in
    ap (λ groups. app_over (codes "mailfile-store") (map (shape_of_table shared) (flat_map (λ group. group.now) groups))) c.in_ok-vec.ensures.items
    ∙ store_app_of shared c.capturing.result.now c.reading.result.now c.judging.result.now c.keeping.result.now c.telling.result.now
    c.conditions.ensures (c.capturing.ensures shared) (c.reading.ensures shared) (c.judging.ensures shared) (c.keeping.ensures shared)
    (c.telling.ensures shared)
