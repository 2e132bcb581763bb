use Rattle.std.proofs.Common.{◌∙◌, ◌∷◌, [], ap₂, refl, subst}
use Rattle.cli_readings.specs.Exports.{sum_line}
use Rattle.cli_readings.specs.Exporting.{HandsOver, more_over}
use Rattle.cli_readings.specs.Parts as part
use Rattle.cli_readings.proofs.exporting.write_message.Goals as goal

pub returns-clause-told : goal.returns-clause-told
returns-clause-told g c = record {
  message = refl;
  file = c.in_ok-name.ensures;
  length = refl;
  sum = c.in_ok-sum.ensures;
  sender = c.in_ok-headers_of.ensures.sender;
  subject = c.in_ok-headers_of.ensures.subject;
  date = c.in_ok-headers_of.ensures.date;
}

pub returns-clause-handed : goal.returns-clause-handed
returns-clause-handed g c =
    let octets = c.args.octets.now in
    let name = c.as_str.ensures.value ∙ c.in_ok-name.ensures in
    let line = c.as_str-4.ensures.value ∙ c.in_ok-line.ensures
    ∙ ap₂ sum_line (c.as_str-2.ensures.value ∙ c.in_ok-sum.ensures) (c.as_str-3.ensures.value ∙ c.in_ok-name.ensures) in
    subst (λ ps. HandsOver g.D.Destination.made c.args.out.now ps c.write_sum.new.self)
    (ap₂ (λ n l. part.file n octets ∷ part.sum l ∷ []) name line)
    (more_over g.D.Destination.made c.args.out.now c.write_file.new.self c.write_sum.new.self _ _ c.in_ok-write_file.ensures
    c.in_ok-write_sum.ensures)
