use Rattle.std.proofs.Common.{◌∙◌, length, sym, ap}
use Rattle.sha2.specs.Sha256.{sha256}
use Rattle.record_archive.specs.Archive.{Archive, Record, body_of}
use Rattle.record_choice.proofs.Judged.{message_stored}
use Rattle.record_choice.proofs.destruction.read_sum.Goals as goal

pub returns-clause-told : goal.returns-clause-told
returns-clause-told g c = λ clean (a : Archive) (r : Record) s at live same. (
  c.in_ok-body.body.items,
  ap (body_of a.messages) (sym same)
      ∙ message_stored a c.args.entry.now.number r c.in_ok-body.body.items at live (c.in_ok-body.ensures.told clean a s),
  ap length c.as_slice-octets.ensures.value,
  c.digest-sum.ensures ∙ ap sha256 c.as_slice-octets.ensures.value,
)
