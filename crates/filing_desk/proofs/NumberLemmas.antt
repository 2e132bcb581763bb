-- Numbers that no record has.
use Rattle.std.proofs.Common.{◌≡◌, ◌≤◌, ◌^◌, ℕ, List, [], ◌∷◌, false, find, None, Err, refl, ap, arith}
use Rattle.std.specs.List.{AllByRecursion}
use Rattle.std.proofs.lemmas.Bool.Decides.{nat_tests}
use Rattle.std.proofs.lemmas.List.Elements.{recursion_from_All}
use Rattle.record_archive.specs.Archive.{Record, Archive, IsArchive, IsRecord, has_number, record_at, hold, release}
use Rattle.record_archive.specs.Archive.{destroy, hold_one, release_one, destroy_one}
use Rattle.record_archive.specs.declared.fault.ArchiveRefusal.TheVariants.{NoRecord}

none_above : (a : Archive) (n : ℕ) (rs : List Record) → AllByRecursion (IsRecord a) rs → 2 ^ 32 ≤ n → find (has_number n) rs ≡ None
none_above a n [] all large = refl
none_above a n (r ∷ rs) all large =
    let number = all.0.number.1 in
    let other : has_number n r ≡ false = grind (arith, nat_tests, number, large) in
    rw other (none_above a n rs all.1 large)

-- each number of a record is less than 2^32
pub no_record : (a : Archive) (n : ℕ) → IsArchive a → 2 ^ 32 ≤ n → record_at a n ≡ None
no_record a n is large = none_above a n a.records (recursion_from_All (IsRecord a) a.records is.records) large

pub no_hold : (a : Archive) (name : List ℕ) (n : ℕ) → IsArchive a → 2 ^ 32 ≤ n → hold a name n ≡ Err NoRecord
no_hold a name n is large = ap (hold_one a name n) (no_record a n is large)

pub no_release : (a : Archive) (name : List ℕ) (n : ℕ) → IsArchive a → 2 ^ 32 ≤ n → release a name n ≡ Err NoRecord
no_release a name n is large = ap (release_one a name n) (no_record a n is large)

pub no_destruction : (a : Archive) (n day : ℕ) → IsArchive a → 2 ^ 32 ≤ n → destroy a n day ≡ Err NoRecord
no_destruction a n day is large = ap (destroy_one a n day) (no_record a n is large)
