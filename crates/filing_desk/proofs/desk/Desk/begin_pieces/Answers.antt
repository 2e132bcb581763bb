use Rattle.std.proofs.Common.{refl}
use Rattle.filing_desk.specs.Messages.{whole_message}
use Rattle.filing_desk.proofs.desk.Desk.begin_pieces.Goals as goal

pub returns : goal.returns
returns g c = c.begin_message.ensures (whole_message c.args.pieces.now) refl
