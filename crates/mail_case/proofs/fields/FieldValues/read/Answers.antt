use Rattle.std.proofs.Common.{refl}
use Rattle.mail_case.proofs.ValueLemmas.{Reading-more}
use Rattle.mail_case.proofs.fields.FieldValues.read.Goals as goal

pub loop-found-preserved : goal.loop-found-preserved
loop-found-preserved c =
    rw c.in_ok-push.ensures.items (Reading-more c.args.text.now c.loop-found.rest.now c.loop-found.octets.items
    c.append_field.new.octets.items c.in-Some.found.after.now c.loop-found.ends.items c.in_ok-append_field.field-0
    c.in-Some.found c.loop-found.invariant c.in-Some.ensures refl c.in_ok-append_field.ensures.octets
    c.in_ok-append_field.ensures.name c.in_ok-append_field.ensures.value c.in_ok-append_field.ensures.short)
