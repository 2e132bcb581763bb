use Rattle.std.proofs.Common.{refl}
use Rattle.filing_desk.proofs.FlightLemmas.{turned_by}
use Rattle.filing_desk.proofs.registry.DeskRegistry.turn.Goals as goal

pub returns : goal.returns
returns g c = turned_by g.A.Records.keeper c.args.self.now _ c.args.ticket c.args.count _ refl refl refl refl c.turn.ensures
