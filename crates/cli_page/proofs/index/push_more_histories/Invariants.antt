use Rattle.std.proofs.Common.{◌≡◌, ◌++◌, drop, flat_map}
use Rattle.cli_page.specs.Indexes.{more_link}
use Rattle.cli_page.proofs.index.push_more_histories.Given as goal

abbrev pub invariant-loop-volume : goal.invariant-loop-volume
invariant-loop-volume l =
    l.page ++ flat_map more_link (drop l.volume-index l.volumes) ≡ l.initial.page ++ flat_map more_link l.volumes
