-- What disposals come to in one store after another.
use Rattle.std.specs.Prelude.{◌≡◌, ◌||◌, ℕ, true, Bool, if◌then◌else◌, List, ◌++◌, codes, Result, Ok, Err, is_ok}
use Rattle.jiff.specs.Words.{date_text}
use Rattle.jiff_core.specs.declared.civil.date.Date.{Date}
use Rattle.cli_texts.specs.Words.{words}
use Rattle.cli_console.specs.declared.failure.Failure.{Failure}
use Rattle.cli_changes.specs.declared.disposal_tally.DisposalTally.{DisposalTally}

-- what one of two came to
abbrev pub in_both : DisposalTally → DisposalTally → DisposalTally
in_both x y = record { is_any = x.is_any || y.is_any; is_any_gone = x.is_any_gone || y.is_any_gone }

-- WHAT THEY HAVE COME TO after one more, which counts where it ended well
abbrev pub tally_after : DisposalTally → (disposed : Result DisposalTally Failure) → DisposalTally
tally_after before (Ok next) = in_both before next
tally_after before (Err failure) = before

-- something ends as another thing does, whatever that comes to
abbrev pub EndsAs : {X : Type 0} → Result X Failure → Result (Unit {0}) Failure → Type 0
EndsAs (Ok x) done = is_ok done ≡ true
EndsAs (Err failure) done = done ≡ Err failure

-- NO RECORD IS DUE BY A DAY and may be destroyed, of all or of those that are typed
unfoldable pub none_words : (is_typed : Bool) → (day : Date) → List ℕ
none_words is_typed day =
    words (if is_typed then codes "none of these records" else codes "no record") ++ words (codes " is due by ") ++ words (date_text day)
    ++ words (codes " and may be destroyed")
