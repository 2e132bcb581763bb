use Rattle.std.proofs.Common.{◌∙◌, ap}
use Rattle.record_archive.specs.Archive.{Archive}
use Rattle.cli_texts.specs.Headers.{date_of, sender_of, subject_of}
use Rattle.cli_readings.proofs.list.headers_of_record.Goals as goal

pub returns-clause-texts : goal.returns-clause-texts
returns-clause-texts g c = λ clean (a : Archive) s. record {
  octets = c.in_ok-message.message.items;
  of_it = c.in_ok-message.ensures.told clean a s;
  sender = c.in_ok-headers_of.ensures.sender ∙ ap sender_of c.as_slice.ensures.value;
  subject = c.in_ok-headers_of.ensures.subject ∙ ap subject_of c.as_slice.ensures.value;
  date = c.in_ok-headers_of.ensures.date ∙ ap date_of c.as_slice.ensures.value;
}
