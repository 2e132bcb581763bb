use Rattle.std.proofs.Common.{◌∙◌, ap, cond, Some}
use Rattle.std.specs.BTreeMap.{get}
use Rattle.record_known.specs.Known.{key_cmp}
use Rattle.record_known.proofs.KeyLemmas.{key_is}
use Rattle.record_known.proofs.known.Known.note.Goals as goal

pub returns : goal.returns
returns c = λ k.
    c.in_ok-insert.ensures.updates.0 k
    ∙ ap (λ b. cond b (Some c.args.first) (get key_cmp c.args.self.now.records k)) (key_is c.args.key k)
