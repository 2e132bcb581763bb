use Rattle.std.proofs.Common.{◌∙◌, ap, cond, None, Some}
use Rattle.std.specs.BTreeMap.{get}
use Rattle.std.specs.Option.{option_or}
use Rattle.record_known.specs.Known.{is_key, key_cmp}
use Rattle.record_known.proofs.KeyLemmas.{key_is}
use Rattle.mail_import.specs.Known.{record_among}
use Rattle.mail_import.proofs.KnownLaws.{new_or_before}
use Rattle.mail_import.proofs.known.AllKnown.note.Goals as goal

pub returns : goal.returns
returns c = λ k.
    let before = get key_cmp c.args.self.now.captured k in
    let stores = record_among None c.args.self.now.stores.items k in
    ap (λ o. option_or o stores)
    (c.in_ok-insert.ensures.updates.0 k ∙ ap (λ b. cond b (Some c.args.first) before) (key_is c.args.key k))
    ∙ new_or_before (is_key c.args.key k) c.args.first before stores
