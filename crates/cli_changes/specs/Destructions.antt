-- What a disposal destroys, run by run, and how it ends.
use Rattle.std.specs.Prelude.{◌≡◌, ◌≤◌, ◌==◌, ℕ, ℤ, Bool, true, false, not, List, [], ◌∷◌, ◌++◌, length, map, filter, count_by, is_ok}
use Rattle.std.specs.Prelude.{Result, Ok, Err}
use Rattle.std.specs.List.{AllByRecursion}
use Rattle.std.specs.List.Sorted.{IsPermutation}
use Rattle.sqlite.specs.Store.{Ghosts}
use Rattle.sqlite.specs.State.{HasCleanDisk}
use Rattle.sqlite.specs.Held.{state}
use Rattle.choice_words.specs.Ranges.{is_meant_by}
use Rattle.choice_words.specs.declared.numbers.TypedNumbers.{TypedNumbers}
use Rattle.cli_choice.specs.Typed.{singles}
use Rattle.command_lines.specs.declared.archives.Disposal.{Disposal}
use Rattle.record_archive.specs.Archive.{Archive, Line}
use Rattle.record_archive.specs.Lines.{line_view}
use Rattle.record_choice.specs.Disposals.{Certificate, Destroys, HandsOver, asked_list, disposable_list}
use Rattle.record_choice.specs.Reads.{OnlyReads}
use Rattle.record_choice.specs.Reasons.{MayGo}
use Rattle.record_choice.specs.declared.destruction.End.{End}
use Rattle.record_choice.specs.declared.destruction.End.TheVariants as ended
use Rattle.record_choice.specs.declared.disposal.DisposeFault.{DisposeFault}
use Rattle.record_choice.specs.declared.disposal.DisposeFault.TheVariants as undone
use Rattle.record_ledger.specs.Ledgers.{KeptFor, store_of}
use Rattle.record_ledger.specs.declared.ledger.Ledger.{Ledger}
use Rattle.record_store.specs.Faults.{StoreFault}
use Rattle.cli_console.specs.Failures.{IsOfStore, IsToldAs}
use Rattle.cli_console.specs.declared.failure.Failure.{Failure}
use Rattle.cli_console.specs.declared.failure.Failure.TheVariants.{NoMemory}
use Rattle.cli_console.specs.declared.failure.Status.TheVariants.{BadData}
use Rattle.cli_history.specs.declared.seals.Seals.{Seals}
use Rattle.cli_changes.specs.Runs.{IsNoted, IsUnaltered, noted, records_of}
use Rattle.cli_changes.specs.declared.altered.Damage.{Damage}
use Rattle.cli_changes.specs.declared.altered.Damage.TheVariants as on_damage
use Rattle.cli_changes.specs.declared.dispose.Asked.{Asked}
use Rattle.cli_changes.specs.declared.dispose.Fate.{Fate}
use Rattle.cli_changes.specs.declared.dispose.Fate.TheVariants.{Listed, Destroyed}

-- ---- what is asked

-- altered records are destroyed only where that is asked for
abbrev pub damage_asked : (is_damaged : Bool) → Damage
damage_asked false = on_damage.Refused
damage_asked true = on_damage.Destroyed

-- WHAT IS ASKED OF A DISPOSAL: a list, unless records are to be destroyed
abbrev pub fate_asked : (destroys is_damaged : Bool) → Fate
fate_asked false is_damaged = Listed
fate_asked true is_damaged = Destroyed (damage_asked is_damaged)

-- a record is meant by what is typed; each is where nothing is
abbrev pub is_meant : List TypedNumbers → ℕ → Bool
is_meant [] n = true
is_meant (w ∷ ws) n = is_meant_by (w ∷ ws) n

-- the numbers of lines, in their order
abbrev pub numbers_of : List Line → List ℕ
numbers_of lines = map (λ (l : Line). l.number) lines

-- THE RECORDS OF A DISPOSAL: of those that may be destroyed by the day, those that are meant
abbrev pub meant_numbers : Archive → (day : ℤ) → List TypedNumbers → List ℕ
meant_numbers a day typed = filter (is_meant typed) (numbers_of (disposable_list a day))

-- there is a record among these
abbrev pub are_any : List ℕ → Bool
are_any ns = not (length ns == 0)

-- ---- what is destroyed

-- CERTIFICATES ARE HANDED OVER, one after another, and this holds of them and of the archive that was kept, where what is read is what
-- was written
abbrev pub HandsOverFor : {C : Type 0} (takes : C → C → Certificate → Type 0) (old new : C) (is_read : Type 0) (kept : Archive → Type 0)
    (So : List Certificate → Archive → Type 0) → Type 0
HandsOverFor takes old new is_read kept So =
    (cs : List Certificate) × HandsOver takes old cs new × (is_read → (a : Archive) → kept a → So cs a)

-- no number is there twice
abbrev pub EachOnce : List ℕ → Type 0
EachOnce ns = (n : ℕ) → count_by (λ m. n == m) ns ≤ 1

-- a disposal is done, or a record is destroyed
abbrev pub has_begun : (is_done : Bool) → List Certificate → Bool
has_begun true cs = true
has_begun false [] = false
has_begun false (c ∷ cs) = true

-- THE DISPOSAL OF RECORDS: each of these is gone or stays, once. Those that are gone were destroyed one after another, each by the
-- archive's command and with its certificate, and this holds of the archive that is left. Where it is done, none stays.
pub record IsDisposal (Left : Archive → Type 0) (day : ℤ) (these : List ℕ) (is_done : Bool) (cs : List Certificate) (a : Archive) : Type 0 where
  pub gone : List ℕ
  pub staying : List ℕ
  pub each_once : IsPermutation these (gone ++ staying)
  pub destroyed : Destroys Left day gone cs a
  pub all : is_done ≡ true → staying ≡ []

-- THE DISPOSAL OF THE RECORDS THAT ARE ASKED FOR: it begins only where each number that is asked for may be destroyed
pub record DisposesAsked (Left : Archive → Type 0) (day : ℤ) (asked : List ℕ) (is_done : Bool) (cs : List Certificate) (a : Archive) : Type 0 where
  pub these : IsDisposal Left day (numbers_of (asked_list a day asked)) is_done cs a
  pub may_go : has_begun is_done cs ≡ true → AllByRecursion (MayGo a day) asked

-- these records are the ones that are asked for, each once; each number that is asked for may be destroyed; and unless damage is
-- destroyed too, no message of these was altered
pub record AreApproved (seals : Seals) (damage : Damage) (a : Archive) (day : ℤ) (asked these : List ℕ) : Type 0 where
  pub each_once : IsPermutation (numbers_of (asked_list a day asked)) these
  pub may_go : AllByRecursion (MayGo a day) asked
  pub unaltered : damage ≡ on_damage.Refused → AllByRecursion (IsUnaltered seals a) these

-- what was read of the records that are asked for: their lines, and runs in which each of them is once, with what is noted of it
pub record IsAskedFor (seals : Seals) (a : Archive) (day : ℤ) (asked : List ℕ) (it : Asked) : Type 0 where
  pub lines : map line_view it.lines.items ≡ asked_list a day asked
  pub each_once : IsPermutation (numbers_of (asked_list a day asked)) (records_of it.runs.items)
  pub may_go : AllByRecursion (MayGo a day) asked
  pub noted : AllByRecursion (IsNoted seals a) (noted it.runs.items)

-- the same by the seals of messages: unless damage is destroyed too, it begins only where no message of these was altered
pub record DisposesUnaltered (seals : Seals) (damage : Damage) (Left : Archive → Type 0) (day : ℤ) (asked : List ℕ) (is_done : Bool)
    (cs : List Certificate) (a : Archive) : Type 0 where
  pub disposal : DisposesAsked Left day asked is_done cs a
  pub unaltered : has_begun is_done cs ≡ true → damage ≡ on_damage.Refused
      → AllByRecursion (IsUnaltered seals a) (numbers_of (asked_list a day asked))

-- A DISPOSAL MAY BEGIN: each number that is typed by itself may be destroyed, and no message of the records that are meant was altered,
-- unless damage is destroyed too
pub record MayBegin (seals : Seals) (d : Disposal) (a : Archive) (day : ℤ) : Type 0 where
  pub may_go : AllByRecursion (MayGo a day) (singles d.numbers.items)
  pub unaltered : d.is_damaged ≡ false → AllByRecursion (IsUnaltered seals a) (meant_numbers a day d.numbers.items)

-- A DISPOSAL, as it is asked for on a command line: the records that are meant are destroyed, each with its certificate. It begins only
-- where it may.
pub record IsDisposalOf (seals : Seals) (d : Disposal) (Left : Archive → Type 0) (day : ℤ) (is_done : Bool) (cs : List Certificate)
    (a : Archive) : Type 0 where
  pub these : IsDisposal Left day (meant_numbers a day d.numbers.items) is_done cs a
  pub may_begin : has_begun is_done cs ≡ true → MayBegin seals d a day

-- ---- the ledger

-- what is read of an archive is what was written
abbrev pub IsRead : {S K : Type 0} → Ghosts S → Ledger S K → Type 0
IsRead g l = HasCleanDisk (state g (store_of l.kept).conn)

-- its archive stays
abbrev pub IsOnlyRead : {S K : Type 0} → Ghosts S → (old new : Ledger S K) → Type 0
IsOnlyRead g old new = OnlyReads (IsRead g) (λ l a. KeptFor g l.kept a) old new

-- ---- how it ends

-- A DISPOSAL ENDS WELL only where it is done; else with what its archive refused, or with what became of a certificate
abbrev pub IsSettled : End StoreFault Failure → Result (Unit {0}) Failure → Type 0
IsSettled ended.Done done = is_ok done ≡ true
IsSettled (ended.Repository fault) (Ok done) = ⊥
IsSettled (ended.Repository fault) (Err failure) = IsOfStore fault failure
IsSettled (ended.Registrar failure) done = done ≡ Err failure

-- the failure of a disposal that destroys nothing: a record that may not go is bad data
abbrev pub IsUndone : DisposeFault StoreFault → Failure → Type 0
IsUndone (undone.Repository fault) failure = IsOfStore fault failure
IsUndone undone.NoMemory failure = failure ≡ NoMemory
IsUndone (undone.NotApproved number why) failure = IsToldAs BadData failure
