-- When a copy is refused since a row is lost.
use Rattle.std.proofs.Common.{◌≡◌, map, Result, Err, IsErrAnd, refl, sym, ap, subst, ◌∙◌}
use Rattle.std.proofs.lemmas.List.Elements.{All-from_recursion, recursion_from_All}
use Rattle.std.proofs.lemmas.List.Sorted.{All-permutation}
use Rattle.std.proofs.lemmas.Result.{err_from_is_err_and}
use Rattle.std.specs.List.{AllByRecursion}
use Rattle.sqlite.specs.declared.error.Error.{Error}
use Rattle.sqlite.specs.declared.error.Error.TheVariants.{SqliteFailure}
use Rattle.sqlite.specs.declared.error.ErrorCode.TheVariants.{OutOfMemory}
use Rattle.sqlite_keyed.proofs.ListLemmas.{map-map}
use Rattle.record_archive.specs.Archive.{Archive, IsArchive}
use Rattle.record_tables.specs.Rows.{Tables}
use Rattle.record_tables.specs.Reads.{hold_entry, FitsHold}
use Rattle.record_tables.specs.declared.fault.Fault.{Fault}
use Rattle.record_tables.specs.declared.fault.Fault.TheVariants as reads
use Rattle.record_adoption.specs.Adoption.{sorted_holds, named_hold}
use Rattle.record_adoption.specs.Keeping.{hold_of}
use Rattle.record_adoption.proofs.AdoptHolds.{holds_permuted}
use Rattle.record_adoption.proofs.AdoptRows.{holds_fit}
use Rattle.record_copy.specs.declared.fault.CopyFault.{CopyFault}
use Rattle.record_copy.specs.declared.fault.CopyFault.TheVariants.{Lost}
use Rattle.record_copy.specs.Faults.{of_source, of_target}

not_lost : (e : Error) → of_target e ≡ Lost → ⊥
not_lost (SqliteFailure OutOfMemory) h = cc
not_lost e h = cc

no_archive : (f : Fault) → of_source f ≡ Lost → f ≡ reads.NoArchive
no_archive reads.NoArchive h = refl
no_archive reads.NoMemory h = absurd cc
no_archive (reads.Sqlite e) h = absurd cc

passed : {T : Type 0} (r : Result T CopyFault) (f : CopyFault) → IsErrAnd r (λ x. x ≡ f) → r ≡ Err Lost → f ≡ Lost
passed r f h is =
    let p = err_from_is_err_and r h in
    let same : p.0 ≡ Lost = let a = p.1 in cc in
    sym p.2 ∙ same

-- a refusal that is passed on
pub handed_on : {T : Type 0} (r : Result T CopyFault) (f : CopyFault) → IsErrAnd r (λ x. x ≡ f) → r ≡ Err Lost → f ≡ Lost
handed_on = passed

-- an error of the new database never says that a row is lost
pub never_lost : {T : Type 0} (r : Result T CopyFault) (e : Error) → IsErrAnd r (λ x. x ≡ of_target e) → r ≡ Err Lost → ⊥
never_lost r e h is = not_lost e (passed r (of_target e) h is)

-- a fault of a read says so where the read finds no archive
pub no_archive_read : {T : Type 0} (r : Result T CopyFault) (f : Fault) → IsErrAnd r (λ x. x ≡ of_source f) → r ≡ Err Lost → f ≡ reads.NoArchive
no_archive_read r f h is = no_archive f (passed r (of_source f) h is)

-- the holds of an archive's tables have numbers of 32 bits
pub placed_fit : (a : Archive) (t : Tables) → map hold_of t.holds ≡ a.holds → IsArchive a → AllByRecursion FitsHold (map hold_entry t.holds)
placed_fit a t same is =
    let them : map named_hold a.holds ≡ map hold_entry t.holds = ap (map named_hold) (sym same) ∙ map-map named_hold hold_of t.holds in
    subst (AllByRecursion FitsHold) them (recursion_from_All FitsHold (map named_hold a.holds)
    (All-permutation FitsHold (sorted_holds a) (map named_hold a.holds) (holds_permuted a)
    (All-from_recursion FitsHold (sorted_holds a) (holds_fit a is))))
