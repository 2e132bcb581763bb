-- Reads of a page, as looks at the archive's tables.
use Rattle.std.proofs.Common.{◌≡◌, ℕ, List, filter, take, length, map, nat_le, Some, None}
use Rattle.std.proofs.Common.{Result, slice_get, [], ◌∷◌, zero, suc, ◌-◌, ◌<◌, refl, ap, ◌∙◌, arith}
use Rattle.std.specs.List.{AllByRecursion}
use Rattle.std.proofs.lemmas.List.Elements.{recursion_from_All}
use Rattle.sqlite.specs.Store.{Ghosts}
use Rattle.sqlite.specs.Held.{Held}
use Rattle.sqlite_keyed.proofs.ListLemmas.{filter_same, all-filter, all_weaker}
use Rattle.record_archive.specs.Archive.{Record, Archive, IsArchive, IsRecord}
use Rattle.record_tables.specs.Reads.{FitsRecord}
use Rattle.record_tables.specs.Tables.{IsArchiveSchema}
use Rattle.record_tables.specs.Rows.{Tables}
use Rattle.record_reads.specs.Lookups.{Looks}
use Rattle.record_reads.specs.Quiet.{ReadsQuietly}
use Rattle.record_reads.specs.Pages as pages
use Rattle.record_choice.specs.Entries.{records_from}
use Rattle.record_store.specs.Entries.{IsListableRecord}
use Rattle.record_store.proofs.DueLemmas.{le_is}

-- a read of the archive's tables is a look at them
pub looks_at : {S T E : Type 0} (g : Ghosts S) (old new : Held S) (r : Result T E) → ReadsQuietly g old new r IsArchiveSchema
    → Looks g old new
looks_at g old new r read = record {
  idle = read.idle;
  falls = read.falls;
  still = λ idle has. read.quiet idle;
  survives = read.survives;
}

-- the records that are read are the archive's
pub from_told : (a : Archive) (t : Tables) (from most : ℕ) → t.records ≡ a.records
    → take most (pages.records_from from t) ≡ take most (records_from a from)
from_told a t from most same =
    ap (take most)
    (filter_same (pages.is_from from) (λ (r : Record). nat_le from r.number) (λ r. le_is from r.number) t.records
    ∙ ap (filter (λ (r : Record). nat_le from r.number)) same)

pub all_taken : {X : Type 0} (P : X → Type 0) (n : ℕ) (xs : List X) → AllByRecursion P xs → AllByRecursion P (take n xs)
all_taken P zero xs all = tt
all_taken P (suc n) [] all = tt
all_taken P (suc n) (x ∷ xs) all = (all.0, all_taken P n xs all.1)

-- what holds of each record holds of each record of a page
pub page_fits : (from most : ℕ) (rs : List Record) → AllByRecursion FitsRecord rs
    → AllByRecursion FitsRecord (take most (filter (pages.is_from from) rs))
page_fits from most rs all = all_taken FitsRecord most _ (all-filter FitsRecord (pages.is_from from) rs all)

-- no record of an archive was captured after 2199
pub page_listable : (a : Archive) (from most : ℕ) → IsArchive a
    → AllByRecursion IsListableRecord (take most (records_from a from))
page_listable a from most is =
    let all = all_weaker (IsRecord a) IsListableRecord (λ r h. h.day) a.records (recursion_from_All (IsRecord a) a.records is.records) in
    all_taken IsListableRecord most _ (all-filter IsListableRecord (λ (r : Record). nat_le from r.number) a.records all)

is_got : {V : Type 0} (vs : List V) (i : ℕ) → i < length vs → None ≡ slice_get vs i → ⊥
is_got [] i low none = absurd (omega arith)
is_got (x ∷ vs) zero low none = absurd cc
is_got (x ∷ vs) (suc i) low none = is_got vs i (omega arith) none

pub no_last : {V : Type 0} (vs : List V) → None ≡ slice_get vs (length vs - 1) → vs ≡ []
no_last [] none = refl
no_last (x ∷ vs) none = absurd (is_got (x ∷ vs) (length (x ∷ vs) - 1) (omega arith) none)

pub last_map : {V W : Type 0} (f : V → W) (vs : List V) (v : V) (i : ℕ) → Some v ≡ slice_get vs i → Some (f v) ≡ slice_get (map f vs) i
last_map f [] v i at = absurd cc
last_map f (x ∷ vs) v zero at = let same : v ≡ x = cc in ap (λ y. Some (f y)) same
last_map f (x ∷ vs) v (suc i) at = last_map f vs v i at
