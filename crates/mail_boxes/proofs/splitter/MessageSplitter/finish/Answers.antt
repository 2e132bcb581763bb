use Rattle.std.proofs.Common.{ap, sym, ◌∷◌, []}
use Rattle.mail_boxes.specs.Boxes.{Open, groups}
use Rattle.mail_boxes.proofs.splitter.MessageSplitter.finish.Goals as goal

pub returns : goal.returns
unfolding groups
returns c = ap (λ (o : Open). o.text ∷ []) (sym c.self.view_is)
