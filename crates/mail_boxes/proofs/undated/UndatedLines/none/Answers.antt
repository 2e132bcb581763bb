use Rattle.std.proofs.Common.{refl}
use Rattle.mail_boxes.specs.Undated.{end_empty, undated}
use Rattle.mail_boxes.proofs.undated.UndatedLines.none.Goals as goal

pub returns : goal.returns
unfolding undated end_empty
returns c = record { first = refl; count = refl; next = refl; after_empty = refl }
