use Rattle.std.proofs.Common.{◌≡◌, ◌∙◌, refl, sym, ap, subst}
use Rattle.record_archive.specs.Archive.{Archive, record_at}
use Rattle.record_choice.specs.Entries.{RecordEntry}
use Rattle.record_choice.specs.Disposals.{IsKeptBy}
use Rattle.record_choice.proofs.DestructionLaws.{found_has}
use Rattle.record_choice.proofs.destruction.describe.Goals as goal

pub returns-clause-told : goal.returns-clause-told
returns-clause-told g c = λ clean (a : Archive) s known.
    let n = c.args.number in
    let summed = c.keeper_of.ensures.reads.falls clean in
    let begun = c.entry.ensures.reads.stands a s in
    let told = c.in_ok-entry.ensures.told (c.sum_message.ensures.reads.falls summed) a s in
    let r = told.0 in
    let found = told.1 in
    let shown = told.2 in
    let number : c.in_ok-entry.entry.number ≡ n = ap (λ (x : RecordEntry). x.number) shown ∙ found_has n a.records r found in
    let message : c.in_ok-entry.entry.message ≡ r.message = ap (λ (x : RecordEntry). x.message) shown in (
      r,
      found,
      (
        shown,
        c.in_ok-summed.ensures.of ∙ message,
        refl,
        refl,
        λ live. (
          c.in_ok-summed.ensures.told summed a r begun (ap (record_at a) number ∙ found) live (sym message) known,
          subst (λ m. IsKeptBy a m n c.in_ok-kept_by.kept_by) message
              (c.in_ok-kept_by.ensures.told clean a r (c.sum_message.ensures.reads.stands a begun) found live (sym message)),
        ),
      ),
    )
