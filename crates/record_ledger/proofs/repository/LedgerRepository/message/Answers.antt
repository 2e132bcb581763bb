use Rattle.record_ledger.proofs.RepositoryLemmas.{reads_noted, tells_noted}
use Rattle.record_ledger.proofs.repository.LedgerRepository.message.Goals as goal

pub returns-in-Plain-clause-reads : goal.returns-in-Plain-clause-reads
returns-in-Plain-clause-reads g c = record {
  stands = rw c.in-Plain.is c.message.ensures.reads.stands;
  falls = rw c.in-Plain.is c.message.ensures.reads.falls;
}

pub returns-in-Plain-clause-told : goal.returns-in-Plain-clause-told
returns-in-Plain-clause-told g c = rw c.in-Plain.is c.message.ensures.told

pub returns-in-Noted-clause-reads : goal.returns-in-Noted-clause-reads
returns-in-Noted-clause-reads g c =
    let reads = reads_noted g.S.Store _ c.message-in-Noted.new.self _ _ c.message-in-Noted.result c.message-in-Noted.ensures in
    record { stands = rw c.in-Noted.is reads.stands; falls = rw c.in-Noted.is reads.falls }

pub returns-in-Noted-clause-told : goal.returns-in-Noted-clause-told
returns-in-Noted-clause-told g c = rw c.in-Noted.is (tells_noted g.S.Store _ c.message-in-Noted.new.self _ _
    c.message-in-Noted.result c.message-in-Noted.ensures)
