-- Which refusals are the store's own, and why they don't come.
use Rattle.std.proofs.Common.{◌≡◌, ◌==◌, ℕ, Bool, true, false, not, cond, ◌||◌, List, [], ◌∷◌, find, Some, None}
use Rattle.std.proofs.Common.{Result, Ok, Err, IfErr, IsErrAnd, refl, sym, ap, subst, ◌∙◌, true≢false}
use Rattle.std.specs.List.{AllByRecursion}
use Rattle.std.proofs.lemmas.List.Elements.{recursion_from_All}
use Rattle.sqlite.specs.Store.{Ghosts}
use Rattle.sqlite.specs.Effect.{Database}
use Rattle.sqlite.specs.State.{HasCleanDisk}
use Rattle.sqlite.specs.Held.{state}
use Rattle.record_archive.specs.Archive.{Message, Record, Archive, IsArchive, IsRecord, record_at, has_number, has_message, body_of}
use Rattle.record_archive.specs.Faults.{WhereRefused, is_trouble}
use Rattle.record_archive.specs.declared.fault.ArchiveFault.TheVariants.{Refused, Database as Told, NoMemory}
use Rattle.record_tables.specs.Reads.{FitsRecord}
use Rattle.record_tables.specs.declared.fault.Fault.{Fault}
use Rattle.record_tables.specs.declared.fault.Fault.TheVariants as reads
use Rattle.record_adoption.specs.Keeping.{StoresArchive}
use Rattle.record_adoption.proofs.AdoptRows.{records_fit}
use Rattle.record_store.specs.Stores.{StandsFor, IsNeverOwn, Behaves}
use Rattle.record_store.specs.declared.store.Store.{Store}
use Rattle.record_store.specs.Faults.{StoreFault, lost_or, is_own}
use Rattle.record_store.specs.declared.fault.Cause.TheVariants.{Sqlite, Lost, Busy}

-- ---- refusals

-- where a read finds an archive, nothing is lost
pub not_own-lost_or : (e : StoreFault) (f : Fault) → e ≡ lost_or f → (f ≡ reads.NoArchive → ⊥) → is_own e ≡ false
not_own-lost_or e reads.NoMemory same none = ap is_own same
not_own-lost_or e (reads.Sqlite error) same none = ap is_own same
not_own-lost_or e reads.NoArchive same none = absurd (none refl)

pub not_own-trouble : (f : StoreFault) → (is_trouble f ≡ true → ⊥) → is_own f ≡ false
not_own-trouble (Refused r) none = refl
not_own-trouble (Told (Sqlite e)) none = refl
not_own-trouble (Told Lost) none = absurd (none refl)
not_own-trouble (Told Busy) none = absurd (none refl)
not_own-trouble NoMemory none = refl

is_trouble-lost_or : (f : Fault) → is_trouble (lost_or f) ≡ true
is_trouble-lost_or reads.NoMemory = refl
is_trouble-lost_or (reads.Sqlite e) = refl
is_trouble-lost_or reads.NoArchive = refl

-- a read is not refused by the archive
pub no_refusal : (e : StoreFault) (f : Fault) → e ≡ lost_or f → WhereRefused (λ r. ⊥) e
no_refusal e f same r is = true≢false (sym (ap is_trouble same ∙ is_trouble-lost_or f) ∙ ap is_trouble is)

-- ---- a refusal that `?` passes on

pub passed_own : {T : Type 0} (r : Result T StoreFault) (f : StoreFault) (P : Type 0) → IsErrAnd r (λ x. x ≡ f)
    → (P → is_own f ≡ false) → IfErr r (λ x. P → is_own x ≡ false)
passed_own (Err e) f P same h = λ p. ap is_own same ∙ h p
passed_own (Ok x) f P same h = tt

pub passed_cause : {S X : Type 0} (g : Ghosts S) (old new : Store S) (r : Result X StoreFault) (f : StoreFault) → IsErrAnd r (λ x. x ≡ f)
    → ((a : Archive) → StandsFor g old a → HasCleanDisk (state g new.conn) → is_own f ≡ false) → IsNeverOwn g old new r
passed_cause g old new (Err e) f same h = λ a s clean. ap is_own same ∙ h a s clean
passed_cause g old new (Ok x) f same h = λ a s clean. tt

-- outside a transaction a connection is idle
never_busy : (busy settled : Bool) → busy ≡ false → settled ≡ not busy → settled ≡ false → ⊥
never_busy true settled none is out = absurd (let e = none in cc)
never_busy false settled none is out = let e : true ≡ false = sym is ∙ out in cc

-- so a store that represents an archive is never found busy
pub behaves_busy : {S X : Type 0} (g : Ghosts S) (s : Store S) (f : StoreFault) (settled : Bool)
    → settled ≡ not s.conn.in_transaction → settled ≡ false → Behaves {X = X} g s s (Err f)
behaves_busy g s f settled is out = record {
  falls = λ clean. clean;
  cause = λ (a : Archive) stands clean. absurd (never_busy _ settled stands.idle is out);
  «open» = λ clean. tt;
}

-- ---- rows of an archive

pub fits_kept : (a : Archive) (db : Database) (s : StoresArchive db a) → IsArchive a → AllByRecursion FitsRecord s.tables.records
fits_kept a db s is = subst (AllByRecursion FitsRecord) (sym s.keeps.records) (records_fit a is)

pub found_all : {X : Type 0} (P : X → Type 0) (p : X → Bool) (xs : List X) (x : X) → AllByRecursion P xs → find p xs ≡ Some x → P x
found_all P p [] x all e = absurd cc
found_all P p (y ∷ xs) x all e = go (p y) e (found_all P p xs x all.1)
  where
    go : (b : Bool) → cond b (Some y) (find p xs) ≡ Some x → (find p xs ≡ Some x → P x) → P x
    go true e more = let same : y ≡ x = cc in subst P same all.0
    go false e more = more e

-- a record of an archive is as each of its records
pub record_is_sound : (a : Archive) (n : ℕ) (r : Record) → IsArchive a → record_at a n ≡ Some r → IsRecord a r
record_is_sound a n r is at = found_all (IsRecord a) (has_number n) a.records r (recursion_from_All (IsRecord a) a.records is.records) at

found_body : (ms : List Message) (n : ℕ) → has_message ms n ≡ true → None ≡ body_of ms n → ⊥
found_body [] n has none = absurd cc
found_body (m ∷ ms) n has none = go (m.number == n) has none (found_body ms n)
  where
    go : (b : Bool) → (b || has_message ms n) ≡ true → None ≡ cond b (Some m.body) (body_of ms n)
        → (has_message ms n ≡ true → None ≡ body_of ms n → ⊥) → ⊥
    go true has none more = absurd cc
    go false has none more = more has none

-- the message of a live record is there
pub body_is_there : (a : Archive) (n : ℕ) (r : Record) → IsArchive a → record_at a n ≡ Some r → r.destroyed ≡ false
    → None ≡ body_of a.messages r.message → ⊥
body_is_there a n r is at live none = found_body a.messages r.message ((record_is_sound a n r is at).stored live) none
