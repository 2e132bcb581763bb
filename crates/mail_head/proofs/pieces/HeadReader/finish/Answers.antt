use Rattle.std.proofs.Common.{ap, ◌∙◌}
use Rattle.mail_head.specs.Fields.{fields_of}
use Rattle.mail_head.proofs.ReaderLemmas.{fields_room, finished}
use Rattle.mail_head.proofs.pieces.HeadReader.finish.Goals as goal

pub from_octets-requires-clause-room : goal.from_octets-requires-clause-room
from_octets-requires-clause-room c =
    rw c.into_octets.ensures.octets (fields_room c.self.inside.header.kept c.self.inside.line_ends _
    c.self.invariant.counted c.self.invariant.roomy)

pub returns-clause-head : goal.returns-clause-head
returns-clause-head c = λ message e.
    finished c.from_octets.result c.args.self c.into_octets.result.items message e (c.from_octets.ensures.fields
    ∙ ap fields_of c.into_octets.ensures.octets
    ∙ ap (λ r. fields_of r.kept) c.self.view_is) (c.from_octets.ensures.size ∙ c.size-size.ensures
    ∙ ap (λ r. r.size) c.self.view_is) (c.from_octets.ensures.octets ∙ c.into_octets.ensures.octets
    ∙ ap (λ r. r.kept) c.self.view_is)
