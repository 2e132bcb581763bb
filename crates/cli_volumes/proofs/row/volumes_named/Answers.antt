use Rattle.std.proofs.Common.{List, ℕ, [], ◌++◌, ◌∙◌, sym, ap}
use Rattle.std.proofs.lemmas.List.Elements.{filter_map-append}
use Rattle.cli_volumes.specs.Names.{volume_named}
use Rattle.cli_volumes.specs.Rows.{volumes_in}
use Rattle.cli_volumes.proofs.row.volumes_named.Goals as goal

pub loop-entry-init : goal.loop-entry-init
loop-entry-init c = ([], c.new-volumes.ensures.items)

pub loop-entry-preserved : goal.loop-entry-preserved
loop-entry-preserved c =
    let before = c.loop-entry.invariant in
    let more = c.in_ok-add_entry.ensures in
    (before.0 ++ more.0, more.1 ∙ ap (λ (l : List ℕ). l ++ volumes_in more.0) before.1 ∙ sym (filter_map-append volume_named before.0 more.0))
