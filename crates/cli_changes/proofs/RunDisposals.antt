-- Disposals of the records of runs, and what they are for a command.
use Rattle.std.proofs.Common.{◌≡◌, ◌∙◌, ◌<◌, ◌+◌, ℕ, ℤ, Bool, true, false, List, [], ◌∷◌, ◌++◌, length, take, drop}
use Rattle.std.proofs.Common.{◌==◌, Result, Ok, Err, refl, sym, ap, subst, arith, append_assoc, not, true≢false}
use Rattle.std.proofs.lemmas.Bool.Decides.{nat_tests}
use Rattle.std.proofs.lemmas.List.{drop_all, length-append, take-append-drop}
use Rattle.std.proofs.lemmas.List.Elements.{All-from_recursion, recursion_from_All}
use Rattle.std.proofs.lemmas.List.Sorted.{IsPermutation-refl, IsPermutation-sym, All-permutation, length_permutation}
use Rattle.std.specs.Prelude.{is_err, is_ok}
use Rattle.std.specs.List.{AllByRecursion}
use Rattle.std.specs.List.Sorted.{IsPermutation}
use Rattle.record_archive.specs.Archive.{Archive, IsArchive}
use Rattle.record_choice.specs.Disposals.{Certificate, Destroys, asked_list}
use Rattle.record_choice.specs.Reasons.{MayGo}
use Rattle.record_choice.specs.declared.destruction.End.{End}
use Rattle.record_choice.specs.declared.destruction.End.TheVariants as ended
use Rattle.record_store.specs.Faults.{StoreFault}
use Rattle.cli_console.specs.declared.failure.Failure.{Failure}
use Rattle.cli_history.specs.declared.seals.Seals.{Seals}
use Rattle.cli_changes.specs.declared.altered.Damage.{Damage}
use Rattle.cli_changes.specs.declared.runs.Run.{Run}
use Rattle.cli_changes.specs.declared.dispose.Asked.{Asked}
use Rattle.cli_changes.specs.Destructions.{AreApproved, DisposesAsked, DisposesUnaltered, EachOnce, IsAskedFor, IsDisposal, IsSettled}
use Rattle.cli_changes.specs.Destructions.{are_any, numbers_of}
use Rattle.cli_changes.specs.Runs.{AreFilled, IsUnaltered, altered, records_of}
use Rattle.cli_changes.proofs.CountLaws.{once_counted, once_moved, times, times_once}
use Rattle.cli_changes.proofs.DueLaws.{asked_once}
use Rattle.cli_changes.proofs.DisposalLaws.{asked_disposal, disposal_of, none_gone, then_disposal}
use Rattle.cli_changes.proofs.RunLaws.{all_last, records_first, records_joined, unaltered_all}

-- ---- one call

pub settled : (end : End StoreFault Failure) (r : Result (Unit {0}) Failure) → IsSettled end r → is_ok r ≡ true → end ≡ ended.Done
settled ended.Done r s ok = refl
settled (ended.Repository f) (Ok u) s ok = absurd s
settled (ended.Repository f) (Err e) s ok = absurd (true≢false (sym ok))
settled (ended.Registrar f) r s ok = absurd (true≢false (sym ok ∙ ap is_ok s))

pub failed : {X : Type 0} (r : Result X Failure) → is_err r ≡ true → is_ok r ≡ false
failed (Ok u) e = sym e
failed (Err f) e = refl

-- the records that were destroyed, and those that were not reached
pub disposed : (Left : Archive → Type 0) (day : ℤ) (asked : List ℕ) (count : ℕ) (ns : List ℕ) (d : Bool) (cs : List Certificate) (a : Archive)
    → IsPermutation (numbers_of (asked_list a day asked)) ns → Destroys Left day (take count ns) cs a → (d ≡ true → count ≡ length ns)
    → AllByRecursion (MayGo a day) asked → DisposesAsked Left day asked d cs a
disposed Left day asked count ns d cs a moved destroyed all may =
    record {
      these = record {
        gone = take count ns;
        staying = drop count ns;
        each_once = subst (IsPermutation (numbers_of (asked_list a day asked))) (sym (take-append-drop count ns)) moved;
        destroyed = destroyed;
        all = λ yes. drop_all count ns (let e = all yes in omega (arith, e));
      };
      may_go = λ begun. may;
    }

pub none_asked_gone : (Left : Archive → Type 0) (day : ℤ) (asked : List ℕ) (a : Archive) → Left a → DisposesAsked Left day asked false [] a
none_asked_gone Left day asked a left =
    record { these = none_gone Left day (numbers_of (asked_list a day asked)) a left; may_go = λ no. absurd (true≢false (sym no)) }

-- ---- run after run

pub none_yet : (Left : Archive → Type 0) (day : ℤ) (a : Archive) → Left a → IsDisposal Left day [] true [] a
none_yet Left day a left =
    record { gone = []; staying = []; each_once = IsPermutation-refl []; destroyed = left; all = λ yes. refl }

times_joined : (n : ℕ) (xs ys : List ℕ) → times n (xs ++ ys) ≡ times n xs + times n ys
times_joined n [] ys = omega arith
times_joined n (x ∷ xs) ys = let more = times_joined n xs ys in omega (arith, more)

once_within : (xs ys zs : List ℕ) → EachOnce ((xs ++ ys) ++ zs) → EachOnce ys
once_within xs ys zs once =
    once_counted ys (λ n.
    let k = times_once ((xs ++ ys) ++ zs) once n in
    let e = times_joined n (xs ++ ys) zs in
    let f = times_joined n xs ys in
    omega (arith, k, e, f))

pub records_split : (before after : List Run) (run : Run)
    → records_of (before ++ run ∷ after) ≡ (records_of before ++ run.numbers.items) ++ records_of after
records_split before after run =
    records_joined before (run ∷ after) ∙ ap (λ l. records_of before ++ l) (records_first run after)
    ∙ sym (append_assoc (records_of before) run.numbers.items (records_of after))

-- one more run after others
pub next_run : (P Q : Archive → Type 0) (day : ℤ) (before after : List Run) (run : Run) (d : Bool) (cs ds : List Certificate) (a : Archive)
    → AreFilled (before ++ run ∷ after) → EachOnce (records_of (before ++ run ∷ after)) → ((b : Archive) → P b → IsArchive b)
    → IsDisposal P day (records_of before) true cs a → ((b : Archive) → P b → DisposesAsked Q day run.numbers.items d ds b)
    → IsDisposal Q day (records_of before ++ run.numbers.items) d (cs ++ ds) a
next_run P Q day before after run d cs ds a filled once is h to =
    let some : 0 < length run.numbers.items = (all_last (λ (r : Run). 0 < length r.numbers.items) before (run ∷ after) filled).0 in
    let own : EachOnce run.numbers.items =
    once_within (records_of before) run.numbers.items (records_of after) (subst EachOnce (records_split before after run) once) in
    then_disposal P Q day (records_of before) run.numbers.items d cs ds a h
    (λ b k. asked_disposal Q day run.numbers.items d ds b (is b k) some own (to b k))

-- ---- what is asked for

all_moved : (P : ℕ → Type 0) (these rs : List ℕ) → IsPermutation these rs → AllByRecursion P rs → AllByRecursion P these
all_moved P these rs moved all =
    recursion_from_All P these (All-permutation P rs these (IsPermutation-sym these rs moved) (All-from_recursion P rs all))

-- where none of the records that were read was altered, none of those that are asked for was
pub asked_unaltered : (seals : Seals) (a : Archive) (day : ℤ) (asked : List ℕ) (it : Asked) → altered it.runs.items ≡ []
    → IsAskedFor seals a day asked it → AllByRecursion (IsUnaltered seals a) (numbers_of (asked_list a day asked))
asked_unaltered seals a day asked it none told =
    all_moved (IsUnaltered seals a) (numbers_of (asked_list a day asked)) (records_of it.runs.items) told.each_once
    (unaltered_all seals a it.runs.items none told.noted)

pub none_unaltered : (seals : Seals) (damage : Damage) (Left : Archive → Type 0) (day : ℤ) (asked : List ℕ) (a : Archive) → Left a
    → DisposesUnaltered seals damage Left day asked false [] a
none_unaltered seals damage Left day asked a left =
    record { disposal = none_asked_gone Left day asked a left; unaltered = λ no. absurd (true≢false (sym no)) }

-- all are destroyed, whatever comes then
pub whatever_comes : (Left : Archive → Type 0) (day : ℤ) (these : List ℕ) (d : Bool) (cs : List Certificate) (a : Archive)
    → IsDisposal Left day these true cs a → IsDisposal Left day these d cs a
whatever_comes Left day these d cs a h =
    record { gone = h.gone; staying = h.staying; each_once = h.each_once; destroyed = h.destroyed; all = λ yes. h.all refl }

-- THE RUNS OF APPROVED RECORDS, once they are destroyed
pub approved_disposed : (seals : Seals) (damage : Damage) (Left : Archive → Type 0) (day : ℤ) (asked : List ℕ) (seen runs : List Run) (d : Bool)
    (cs : List Certificate) (a : Archive) → seen ≡ runs → IsArchive a → AreFilled runs
    → AreApproved seals damage a day asked (records_of runs)
    → (AreFilled seen → EachOnce (records_of seen) → IsDisposal Left day (records_of seen) d cs a)
    → DisposesUnaltered seals damage Left day asked d cs a
approved_disposed seals damage Left day asked seen runs d cs a same is filled approved h =
    let these = numbers_of (asked_list a day asked) in
    let rs = records_of runs in
    let once = once_moved these rs approved.each_once (asked_once a is day asked) in
    let disposal =
    subst (λ l. AreFilled l → EachOnce (records_of l) → IsDisposal Left day (records_of l) d cs a) same h filled once in
    record {
      disposal = record { these = disposal_of Left day rs these d cs a approved.each_once disposal; may_go = λ begun. approved.may_go };
      unaltered = λ begun refused. all_moved (IsUnaltered seals a) these rs approved.each_once (approved.unaltered refused);
    }

-- ---- whether there is a record

some_first : (xs ys : List ℕ) → 0 < length xs → (length (xs ++ ys) == 0) ≡ false
some_first xs ys some = let all = length-append xs ys in grind (arith, nat_tests, all, some)

-- there is no record in runs only where there is no run
filled_any : (runs : List Run) → AreFilled runs → (length runs == 0) ≡ (length (records_of runs) == 0)
filled_any [] filled = refl
filled_any (r ∷ rs) filled =
    let some : (length (r ∷ rs) == 0) ≡ false = grind (arith, nat_tests) in
    some ∙ sym (ap (λ l. length l == 0) (records_first r rs) ∙ some_first r.numbers.items (records_of rs) filled.0)

pub approved_any : (seals : Seals) (damage : Damage) (a : Archive) (day : ℤ) (asked : List ℕ) (runs : List Run) → AreFilled runs
    → AreApproved seals damage a day asked (records_of runs) → not (length runs == 0) ≡ are_any (numbers_of (asked_list a day asked))
approved_any seals damage a day asked runs filled approved =
    ap not (filled_any runs filled
    ∙ ap (λ n. n == 0) (length_permutation (numbers_of (asked_list a day asked)) (records_of runs) approved.each_once))
