use Rattle.std.proofs.Common.{take}
use Rattle.cli_volumes.specs.Rows.{AreThere}
use Rattle.cli_volumes.proofs.listing.volumes_there.Given as goal

abbrev pub invariant-loop-volume : goal.invariant-loop-volume
invariant-loop-volume g l = AreThere (g.F.ListedFolder.leads l.folder) (take l.volume-index l.named) l.there.items
