use Rattle.std.proofs.Common.{length, sym, ap, ◌∙◌}
use Rattle.mail_case.proofs.ValueLemmas.{length-fields}
use Rattle.mail_case.proofs.fields.FieldValues.count.Goals as goal

pub returns : goal.returns
returns c = c.len.ensures ∙ c.self.inside.ends.ok.0
    ∙ sym (length-fields c.self.inside.octets.items 0 c.self.inside.ends.items) ∙ ap length c.self.view_is
