-- Reads beside the archive are looks.
use Rattle.std.proofs.Common.{◌≡◌, true, false, List, Result, Ok, Err, OnOk, IfErr, IsTrue, refl, sym, ap, ◌∙◌, true≢false}
use Rattle.std.specs.List.{AllByRecursion}
use Rattle.sqlite.specs.Store.{Ghosts}
use Rattle.sqlite.specs.State.{HasCleanDisk}
use Rattle.sqlite.specs.Held.{Held, state}
use Rattle.record_tables.specs.Events.{Event, StoresEvents}
use Rattle.record_tables.specs.Steps.{Rejects}
use Rattle.record_tables.specs.declared.fault.Fault.{Fault}
use Rattle.record_tables.specs.declared.fault.Fault.TheVariants as reads
use Rattle.record_reads.specs.Events.{FitsEvent}
use Rattle.record_reads.specs.Lookups.{Looks}
use Rattle.record_archive.specs.Archive.{Archive}
use Rattle.record_archive.specs.Faults.{is_trouble}
use Rattle.record_store.specs.Events.{ReadsBeside}
use Rattle.record_store.specs.Faults.{StoreFault, lost_or, is_own}
use Rattle.record_store.specs.declared.store.Store.{Store}
use Rattle.record_store.proofs.CommandLemmas.{stands_looked, still_looked, leaves_looked}

pub trouble_of : (f : Fault) → is_trouble (lost_or f) ≡ true
trouble_of reads.NoMemory = refl
trouble_of (reads.Sqlite e) = refl
trouble_of reads.NoArchive = refl

-- the store's own refusal of a read is that of rows that cannot be read
pub own_is_lost : (e : StoreFault) (f : Fault) → e ≡ lost_or f → is_own e ≡ true → f ≡ reads.NoArchive
own_is_lost e reads.NoMemory same own = absurd (true≢false (sym own ∙ ap is_own same))
own_is_lost e (reads.Sqlite error) same own = absurd (true≢false (sym own ∙ ap is_own same))
own_is_lost e reads.NoArchive same own = refl

pub reads_beside : {S X : Type 0} (g : Ghosts S) (old : Store S) (conn : Held S) (result : Result X StoreFault) → Looks g old.conn conn
    → (HasCleanDisk (state g conn) → OnOk result (IsTrue (state g old.conn).is_open × IsTrue (state g conn).is_open))
    → IfErr result (λ f. is_trouble f ≡ true) → ReadsBeside g old (record old { conn = conn }) result
reads_beside g old conn result looks opened trouble = record {
  stands = λ (a : Archive) s. stands_looked g old (record old { conn = conn }) a s looks refl refl (λ n. refl) (λ m. refl);
  still = still_looked g old conn looks;
  falls = looks.falls;
  «open» = opened;
  trouble = trouble;
  crash = λ (a : Archive) s. leaves_looked g old (record old { conn = conn }) a s looks;
}
