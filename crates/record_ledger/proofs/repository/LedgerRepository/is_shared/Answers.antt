use Rattle.std.proofs.Common.{sym, subst}
use Rattle.record_archive.specs.Archive.{Archive, Record}
use Rattle.record_store.specs.Stores.{StandsFor}
use Rattle.record_ledger.specs.Ledgers.{kept_stands}
use Rattle.record_ledger.proofs.repository.LedgerRepository.is_shared.Goals as goal

pub returns : goal.returns
returns g c = λ (a : Archive) (r : Record) s found live same.
    c.is_shared.ensures a r (subst (λ x. StandsFor g.S.Store x a) (sym c.store.ensures) (kept_stands g.S.Store c.args.self.now.kept a s))
    found live same
