use Rattle.std.proofs.Common.{◌∙◌, ap, sym, nat_lt}
use Rattle.record_archive.specs.Archive.{Archive, Record}
use Rattle.record_adoption.specs.Counts.{count_at}
use Rattle.record_store.proofs.DestroyLemmas.{shared_counted}
use Rattle.record_store.proofs.repository.StoreRepository.is_shared.Goals as goal

pub returns : goal.returns
returns g c = λ (a : Archive) (r : Record) s found live same.
    ap (nat_lt 0) c.count.ensures ∙ ap (λ m. nat_lt 0 (count_at c.args.self.now.others m)) (sym same)
    ∙ shared_counted a r (count_at c.args.self.now.others r.message) s.archive found live (s.others r.message)
