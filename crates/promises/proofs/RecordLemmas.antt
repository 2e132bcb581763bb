-- What captures and due lists say about records.
use Rattle.std.proofs.Common.{◌≡◌, ◌+◌, ◌<◌, ◌≤◌, [], ◌∷◌, ℕ, List, map, filter, refl, arith, ap, ◌∙◌, sym, subst, inl}
use Rattle.std.proofs.Common.{inr, Bool, true, false, not, ◌&&◌, Option, Some, None, Result, Ok, Err, Ordering, is_gt}
use Rattle.std.specs.Prelude.{if◌then◌else◌, max, All, Contains}
use Rattle.std.specs.List.{AllByRecursion, AllZip}
use Rattle.std.proofs.lemmas.Bool.Decides.{nat_tests}
use Rattle.std.proofs.lemmas.List.{append-nil}
use Rattle.std.proofs.lemmas.List.Elements.{All-from_recursion, recursion_from_All, All-contains_itself, Contains-push}
use Rattle.record_archive.specs.Lists.{sort_by, insert_sorted}
use Rattle.class_paths.specs.Paths.{Paths}
use Rattle.class_plan.specs.Plans.{is_open_in}
use Rattle.sieve_meaning.specs.Case.{Facts}
use Rattle.sieve_meaning.specs.Program.{Commands}
use Rattle.sieve_meaning.specs.Meaning.{Ending, GoesOn, Returns, Stops, Faults, Library, meaning}
use Rattle.sieve_meaning.specs.declared.outcome.Outcome.{Outcome}
use Rattle.sieve_meaning.specs.declared.run_fault.RunFault.{RunFault}
use Rattle.sieve_meaning.specs.declared.run_fault.RunFault.TheVariants as run_faults
use Rattle.sieve_meaning.specs.Outcome.{outcome, outcome_at, outcome_of}
use Rattle.sieve_meaning.specs.TooHeavy.{is_too_heavy}
use Rattle.mail_case.specs.Message.{case_of}
use Rattle.filing_image.specs.Program.{Program}
use Rattle.filing_table.specs.Ends.{HasOutcome}
use Rattle.record_archive.specs.Archive.{Record, Archive, Line, capture, after_capture, capture_lines, due_list, due_of}
use Rattle.record_archive.specs.Archive.{has_room, is_by, is_due, is_held, line_cmp, line_of, new_records, next_number}
use Rattle.record_archive.specs.Archive.{past_all, records_of}
use Rattle.record_archive.specs.declared.fault.ArchiveRefusal.{ArchiveRefusal}
use Rattle.record_archive.specs.declared.fault.ArchiveRefusal.TheVariants.{Full}
use Rattle.desk_commands.specs.Answers.{captured, listed, refused}
use Rattle.desk_commands.specs.Answers as answers
use Rattle.desk_commands.specs.Office.{Office, IsFiled, IsTried, due, file, try_image}
use Rattle.desk_commands.specs.Parts.{IsGoodImage}
use Rattle.desk_commands.specs.Pinning.{BeginState, Choice, nothing, script, image_of, GivesOutcome, IsAlone, case_in}
use Rattle.desk_commands.specs.Standing.{plain, finish, Flight, Standing, Step, FinishWhole, Files, flight_of}
use Rattle.promises.specs.Records.{EndsWithinBudget, FilesAlone, IsDueBy, IsDueLine, IsFaultAlone, IsLineOf, IsMadeWhole}
use Rattle.promises.proofs.CitedLaws.{LengthsAreOne, RunsEnd}
use Rattle.promises.proofs.Pinned.{budget_holds}
use Rattle.promises.proofs.Refusals.{finish_of}

-- ---- a fault in the default class alone

some_fault : (fault : RunFault) → ◌≡◌ {A = Option RunFault} None (Some fault) → ⊥
some_fault fault e = cc

fault_alone_at : (fault : Option RunFault) (filed_in : Paths) (kept cancelled : Bool) → IsFaultAlone (outcome_at fault filed_in kept cancelled)
fault_alone_at (Some fault) filed_in kept cancelled other e = refl
fault_alone_at None filed_in kept cancelled other e = absurd (some_fault other e)

fault_alone_of : (e : Ending) → IsFaultAlone (outcome_of e)
fault_alone_of (GoesOn f) = fault_alone_at None f.filed f.kept f.cancelled
fault_alone_of (Returns f) = fault_alone_at None f.filed f.kept f.cancelled
fault_alone_of (Stops f) = fault_alone_at None f.filed f.kept f.cancelled
fault_alone_of (Faults fault f) = fault_alone_at (Some fault) f.filed f.kept f.cancelled

pub meaning_fault_alone : (facts : Facts) (lib : Library) (known_as : Option (List ℕ)) (main : Commands)
    → IsFaultAlone (outcome facts lib known_as main)
unfolding outcome
meaning_fault_alone facts lib known_as main = go (is_too_heavy lib known_as main)
  where
    go : (heavy : Bool)
        → IsFaultAlone (if heavy then outcome_at (Some run_faults.TooHeavy) [] false false else outcome_of
        (meaning facts lib known_as main))
    go true = fault_alone_at (Some run_faults.TooHeavy) [] false false
    go false = fault_alone_of (meaning facts lib known_as main)

run_fault_alone : (p : Program) (c : Facts) (n : ℕ) (o : Outcome) → HasOutcome p c n o → IsFaultAlone o
run_fault_alone p c n o (fault, s, ends, e) = subst IsFaultAlone e (fault_alone_at fault s.filed s.kept s.cancelled)

chosen_fault_alone : (c : Choice) (lib : Library) (facts : Facts) (o : Outcome) → GivesOutcome c lib facts o → IsFaultAlone o
chosen_fault_alone nothing lib facts o h = subst IsFaultAlone (sym h) (fault_alone_at None [] false false)
chosen_fault_alone (script name s) lib facts o h = subst IsFaultAlone (sym h) (meaning_fault_alone facts lib (Some name) s)
chosen_fault_alone (image_of p) lib facts o h = run_fault_alone p facts h.0 o h.1

alone_fault_alone : (s : BeginState) (o : Outcome) → IsAlone s o → IsFaultAlone o
alone_fault_alone s o h = chosen_fault_alone s.program s.library (case_in s) o h

-- ---- dry runs

pub file_says : (s : Standing) (script_text message : List ℕ) (o : Outcome) (new : Standing)
    → Step s (plain (file script_text message)) (answers.dry_run o) new → IsFiled s.office script_text message o
    × IsFaultAlone o × (new ≡ s)
unfolding Step
file_says s script_text message o new (b, inl h, e) =
    (h.1, subst IsFaultAlone (sym h.1.outcome) (meaning_fault_alone _ _ None _), e ∙ ap (λ x. record s { office = x }) h.0)
file_says s script_text message o new (b, inr h, e) = absurd (let other : answers.dry_run o ≡ refused h.0 None = h.2 in cc)

tried_within : RunsEnd → LengthsAreOne → (s : Office) (octets message : List ℕ) (o : Outcome)
    → IsTried s octets message o → (p : Program) × IsGoodImage octets p
    × EndsWithinBudget p (case_of message (is_open_in s.archive.plan)) o
tried_within ends_within one_step s octets message o h = (
  h.program,
  h.good,
  budget_holds ends_within one_step h.program (case_of message (is_open_in s.archive.plan))
      h.steps o h.good.well h.outcome,
)

pub try_says : RunsEnd → LengthsAreOne → (s : Standing) (octets message : List ℕ) (o : Outcome) (new : Standing)
    → Step s (plain (try_image octets message)) (answers.dry_run o) new
    → ((p : Program) × IsGoodImage octets p × EndsWithinBudget p (case_of message (is_open_in s.office.archive.plan)) o)
    × IsFaultAlone o × (new ≡ s)
unfolding Step
try_says ends_within one_step s octets message o new (b, inl h, e) = (
  tried_within ends_within one_step s.office octets message o h.1,
  run_fault_alone h.1.program _ h.1.steps o h.1.outcome,
  e ∙ ap (λ x. record s { office = x }) h.0,
)
try_says ends_within one_step s octets message o new (b, inr h, e) = absurd (let other : answers.dry_run o ≡ refused h.0 None = h.2 in cc)

-- ---- records of a capture

-- the message is stored under the number that the record names
abbrev IsStored : Archive → (message : List ℕ) → Record → Type 0
IsStored a message r = Contains a.messages (record { number = r.message; body = message })

classes_of : (n message day : ℕ) (paths : List (List ℕ)) → map (λ (r : Record). r.path) (records_of n message day paths) ≡ paths
classes_of n message day [] = refl
classes_of n message day (q ∷ qs) = ap (λ x. q ∷ x) (classes_of (n + 1) message day qs)

-- each of the records has what each new record has
all_new : (P : Record → Type 0) (n message day : ℕ) (paths : List (List ℕ))
    → ((m : ℕ) (q : List ℕ) → P (record { number = m; message = message; path = q; day = day; destroyed = false }))
    → AllByRecursion P (records_of n message day paths)
all_new P n message day [] h = tt
all_new P n message day (q ∷ qs) h = (h n q, all_new P (n + 1) message day qs h)

each_new : (P : Record → Type 0) (n message day : ℕ) (paths : List (List ℕ))
    → ((m : ℕ) (q : List ℕ) → P (record { number = m; message = message; path = q; day = day; destroyed = false }))
    → All P (records_of n message day paths)
each_new P n message day paths h = All-from_recursion P (records_of n message day paths) (all_new P n message day paths h)

-- ---- numbers

past_least : (n : ℕ) (rs : List Record) → n ≤ past_all n rs
past_least n [] = omega arith
past_least n (r ∷ rs) = let rest = past_least (max n (r.number + 1)) rs in omega (arith, rest)

past_each : (n : ℕ) (rs : List Record) → AllByRecursion (λ (x : Record). x.number < past_all n rs) rs
past_each n [] = tt
past_each n (r ∷ rs) = (let rest = past_least (max n (r.number + 1)) rs in omega (arith, rest), past_each (max n (r.number + 1)) rs)

-- these numbers are below that one
abbrev AreBelow : List Record → ℕ → Type 0
AreBelow rs n = AllByRecursion (λ (x : Record). x.number < n) rs

below_more : (rs : List Record) (n : ℕ) → AreBelow rs n → AreBelow rs (n + 1)
below_more [] n h = tt
below_more (r ∷ rs) n h = (omega (arith, h.0), below_more rs n h.1)

new_above : (old : List Record) (n message day : ℕ) (paths : List (List ℕ)) → AreBelow old n
    → AllByRecursion (λ (r : Record). All (λ (x : Record). x.number < r.number) old) (records_of n message day paths)
new_above old n message day [] h = tt
new_above old n message day (q ∷ qs) h = (
  All-from_recursion (λ (x : Record). x.number < n) old h,
  new_above old (n + 1) message day qs (below_more old n h),
)

lines_told : (a : Archive) (rs : List Record) → AllZip (IsLineOf a.plan) rs (map (line_of a) rs)
lines_told a [] = tt
lines_told a (r ∷ rs) = (record { number = refl; class = refl; due = refl }, lines_told a rs)

made_whole : (a : Archive) (at_begin : BeginState) (o : Outcome) (paths : List (List ℕ)) → o.classes ≡ paths
    → IsMadeWhole a at_begin o (capture_lines a at_begin.day paths)
    (after_capture a at_begin.message at_begin.day paths)
made_whole a at_begin o [] e = record {
  records = [];
  added = sym (append-nil a.records);
  classes = sym e;
  days = All-from_recursion _ [] tt;
  live = All-from_recursion _ [] tt;
  numbers = All-from_recursion _ [] tt;
  messages = All-from_recursion _ [] tt;
  told = tt;
  plan = refl;
  holds = refl;
}
made_whole a at_begin o (q ∷ qs) e =
    let n = next_number a in
    let stored = Contains-push a.messages (record { number = n; body = at_begin.message }) in
    record {
      records = new_records a at_begin.day (q ∷ qs);
      added = refl;
      classes = classes_of n n at_begin.day (q ∷ qs) ∙ sym e;
      days = each_new (λ (r : Record). r.day ≡ at_begin.day) n n at_begin.day (q ∷ qs) (λ m p. refl);
      live = each_new (λ (r : Record). r.destroyed ≡ false) n n at_begin.day (q ∷ qs) (λ m p. refl);
      numbers = All-from_recursion (λ (r : Record). All (λ (x : Record). x.number < r.number) a.records)
          (new_records a at_begin.day (q ∷ qs)) (new_above a.records n n at_begin.day (q ∷ qs) (past_each 1 a.records));
      messages = each_new (IsStored (after_capture a at_begin.message at_begin.day (q ∷ qs)) at_begin.message) n n
          at_begin.day (q ∷ qs) (λ m p. stored);
      told = lines_told a (new_records a at_begin.day (q ∷ qs));
      plan = refl;
      holds = refl;
    }

capture_is : (a : Archive) (body : List ℕ) (day : ℕ) (paths : List (List ℕ)) (new : Archive)
    → capture a body day paths ≡ Ok new → after_capture a body day paths ≡ new
capture_is a body day paths new e = go (has_room a paths) e
  where
    go : (room : Bool)
        → ◌≡◌ {A = Result Archive ArchiveRefusal} (if room then Ok (after_capture a body day paths) else Err Full)
        (Ok new) → after_capture a body day paths ≡ new
    go true is = cc
    go false is = absurd cc

files_whole : (a : Archive) (at_begin : BeginState) (fault : Option RunFault) (lines : List Line) (new : Archive)
    → Files a at_begin (captured fault lines) new → FilesAlone a at_begin fault lines new
files_whole a at_begin fault lines new h =
    let made = made_whole a at_begin h.0 h.0.classes refl in
    let P : Archive → Type 0 = λ x. IsMadeWhole a at_begin h.0 (capture_lines a at_begin.day h.0.classes) x in
    let Q : List Line → Type 0 = λ x. IsMadeWhole a at_begin h.0 x new in
    record {
      outcome = h.0;
      alone = h.1;
      fault_alone = alone_fault_alone at_begin h.0 h.1;
      told = h.2;
      whole = subst Q (sym h.4) (subst P (capture_is a at_begin.message at_begin.day h.0.classes new h.3) made);
    }

finish_whole : (s : Standing) (t : ℕ) (early : Bool) (at_begin : BeginState) (fault : Option RunFault)
    (lines : List Line) (new : Standing) → FinishWhole s t early at_begin (captured fault lines) new
    → FilesAlone s.office.archive at_begin fault lines new.office.archive
finish_whole s t true at_begin fault lines new h = absurd (let other : captured fault lines ≡ refused 92 None = h.0 in cc)
finish_whole s t false at_begin fault lines new (inl h) =
    let P : Archive → Type 0 = λ x. FilesAlone s.office.archive at_begin fault lines x in
    subst P (ap (λ (x : Standing). x.office.archive) (sym h.2)) (files_whole s.office.archive at_begin fault lines h.0 h.1)
finish_whole s t false at_begin fault lines new (inr h) = absurd (let other : captured fault lines ≡ refused h.0 None = h.2 in cc)

pub finish_says : (s : Standing) (t : ℕ) (f : Flight) (fault : Option RunFault) (lines : List Line) (new : Standing)
    → Step s (finish t) (captured fault lines) new → flight_of t s.flights ≡ Some f
    → FilesAlone s.office.archive f.at_begin fault lines new.office.archive
finish_says s t f fault lines new h e = finish_whole s t _ f.at_begin fault lines new (finish_of s t (captured fault lines) new f h e)

-- ---- due lists

all_inserted : {X : Type 0} (cmp : X → X → Ordering) (P : X → Type 0) (new : X) (xs : List X) → P new
    → AllByRecursion P xs → AllByRecursion P (insert_sorted cmp new xs)
all_inserted cmp P new [] h all = (h, tt)
all_inserted cmp P new (x ∷ xs) h all = go (is_gt (cmp new x)) (all_inserted cmp P new xs h all.1)
  where
    go : (b : Bool) → AllByRecursion P (insert_sorted cmp new xs) → AllByRecursion P (if b then x ∷ insert_sorted cmp new xs else new ∷ x ∷ xs)
    go true rest = (all.0, rest)
    go false rest = (h, all)

all_sorted : {X : Type 0} (cmp : X → X → Ordering) (P : X → Type 0) (xs : List X) → AllByRecursion P xs → AllByRecursion P (sort_by cmp xs)
all_sorted cmp P [] all = tt
all_sorted cmp P (x ∷ xs) all = all_inserted cmp P x (sort_by cmp xs) all.0 (all_sorted cmp P xs all.1)

due_by : (a : Archive) (day : ℕ) (r : Record) (ends : Option ℕ) (destroyed held : Bool) → due_of a r ≡ ends
    → r.destroyed ≡ destroyed → is_held a r.number ≡ held → (not destroyed && (not held && is_by day ends)) ≡ true
    → IsDueBy a day r
due_by a day r (Some d) false false e f g h = record { live = f; free = g; due = d; ends = e; reached = grind (arith, nat_tests, h) }
due_by a day r None false false e f g h = absurd cc
due_by a day r ends false true e f g h = absurd cc
due_by a day r ends true held e f g h = absurd cc

due_lines : (a : Archive) (day : ℕ) (rs : List Record) → AllByRecursion (Contains a.records) rs
    → AllByRecursion (IsDueLine a day) (map (line_of a) (filter (is_due a day) rs))
due_lines a day [] h = tt
due_lines a day (r ∷ rs) h = go (is_due a day r) refl (due_lines a day rs h.1)
  where
    go : (b : Bool) → is_due a day r ≡ b → AllByRecursion (IsDueLine a day) (map (line_of a) (filter (is_due a day) rs))
        → AllByRecursion (IsDueLine a day)
        (map (line_of a) (if b then r ∷ filter (is_due a day) rs else filter (is_due a day) rs))
    go true e rest = (
      (
        r,
        h.0,
        due_by a day r (due_of a r) r.destroyed (is_held a r.number) refl refl refl e,
        record { number = refl; class = refl; due = refl },
      ),
      rest,
    )
    go false e rest = rest

due_list_lines : (a : Archive) (day : ℕ) → All (IsDueLine a day) (due_list a day)
due_list_lines a day =
    let inside : AllByRecursion (Contains a.records) a.records = recursion_from_All (Contains a.records) a.records (All-contains_itself a.records) in
    All-from_recursion (IsDueLine a day) (due_list a day)
    (all_sorted line_cmp (IsDueLine a day) (map (line_of a) (filter (is_due a day) a.records))
    (due_lines a day a.records inside))

pub due_says : (s : Standing) (day : ℕ) (lines : List Line) (new : Standing)
    → Step s (plain (due day)) (listed lines) new → (lines ≡ due_list s.office.archive day)
    × All (IsDueLine s.office.archive day) lines × (new ≡ s)
unfolding Step
due_says s day lines new (b, inl h, e) =
    let P : List Line → Type 0 = All (IsDueLine s.office.archive day) in
    (h.1, subst P (sym h.1) (due_list_lines s.office.archive day), e ∙ ap (λ x. record s { office = x }) h.0)
due_says s day lines new (b, inr h, e) = absurd (let other : listed lines ≡ refused h.0 None = h.2 in cc)
