-- Outcomes that are filed, and captures that are shown.
use Rattle.std.proofs.Common.{◌≡◌, ◌↔◌, ◌⊎◌, ℕ, List, map, Bool, true, false, if◌then◌else◌, Option, Some, None, Result, Ok}
use Rattle.std.proofs.Common.{Err, Vec, inl, inr, refl, ap, sym, ◌∙◌, subst}
use Rattle.std.specs.Prelude.{IfErr, IsTrue}
use Rattle.std.specs.Result.{IsErr, IsErrAnd}
use Rattle.std.specs.declared.alloc.Global.{Global}
use Rattle.std.proofs.lemmas.Bool.{false≢true}
use Rattle.std.specs.List.{list_all}
use Rattle.class_plan.specs.Plans.{Listing, has}
use Rattle.sieve_meaning.specs.Case.{Facts}
use Rattle.filing_machine.specs.Runs.{IsOnRun}
use Rattle.record_archive.specs.Archive.{Archive, capture, after_capture, capture_lines, has_room, AreClasses}
use Rattle.record_archive.specs.Lines.{line_view}
use Rattle.record_archive.specs.Calls.{CarriesOut, Keeper, KeepsMade, Makes}
use Rattle.record_archive.specs.Faults.{WhereRefused, number_of}
use Rattle.record_archive.specs.declared.fault.ArchiveFault.{ArchiveFault}
use Rattle.record_archive.specs.declared.fault.ArchiveFault.TheVariants.{Refused, Database, NoMemory}
use Rattle.record_archive.specs.declared.fault.ArchiveRefusal.{ArchiveRefusal}
use Rattle.record_archive.specs.declared.fault.ArchiveRefusal.TheVariants.{Full}
use Rattle.record_archive.specs.declared.line.Line.{Line}
use Rattle.desk_commands.specs.Faults.{refused_by, archive_fault}
use Rattle.desk_commands.specs.Standing.{Flight}
use Rattle.desk_commands.specs.CallAnswers.{answer_of_capture}
use Rattle.desk_commands.specs.declared.fault.DeskFault.{DeskFault}
use Rattle.desk_commands.specs.declared.fault.DeskFault.TheVariants as faults
use Rattle.desk_commands.specs.declared.results.Capture.{Capture}
use Rattle.desk_flights.specs.Flights.{IsFound}
use Rattle.desk_flights.specs.FlightViews.{FlightView, facts_in}
use Rattle.filing_desk.specs.Filing.{MakesRecords, FilesSafely, IsArchiveFault, IsNotFiled}
use Rattle.filing_desk.specs.Standing.{IsShownBy}
use Rattle.filing_desk.proofs.FlightLemmas.{none_found}
use Rattle.filing_desk.proofs.ArchiveLemmas.{told}

-- the answer to a fault
pub capture_fault : (result : Result Capture DeskFault) (fault : DeskFault) → IsErr result
    → IsErrAnd result (λ f. f ≡ fault) → answer_of_capture result ≡ refused_by fault
capture_fault (Err f) fault is same = ap refused_by same
capture_fault (Ok c) fault is same = absurd (false≢true is)

-- the fault of a filing that was refused
pub fault_is : (result : Result (Vec Line Global) DeskFault) (f : DeskFault) → IsErr result
    → IsErrAnd result (λ x. x ≡ f) → IsArchiveFault f → IfErr result IsArchiveFault
fault_is (Err e) f is same h = let P : DeskFault → Type 0 = IsArchiveFault in subst P (sym same) h
fault_is (Ok v) f is same h = absurd (false≢true is)

-- a capture is refused because the numbers are used up
only_full : (a : Archive) (body : List ℕ) (day : ℕ) (classes : List (List ℕ)) (r : ArchiveRefusal) → capture a body day classes ≡ Err r → r ≡ Full
only_full a body day classes r e = go (has_room a classes) e
  where
    go : (room : Bool) → ◌≡◌ {A = Result Archive ArchiveRefusal} (if room then Ok (after_capture a body day classes) else Err Full) (Err r) → r ≡ Full
    go true e = absurd cc
    go false e = cc

reason : {E : Type 0} (a : Archive) (body : List ℕ) (day : ℕ) (classes : List (List ℕ)) (f : ArchiveFault E)
    → WhereRefused (λ r. capture a body day classes ≡ Err r) f → IsNotFiled a body day classes (archive_fault f)
reason a body day classes (Refused r) refuses =
    let refused = refuses r refl in
    let full = only_full a body day classes r refused in
    record { number = number_of r; told = told r; reason = inr (ap number_of full, refused ∙ ap (λ x. Err x) full) }
reason a body day classes (Database e) refuses = record { number = 89; told = refl; reason = inl (inr refl) }
reason a body day classes NoMemory refuses = record { number = 99; told = refl; reason = inl (inl refl) }

-- the answer to a capture
abbrev AreLines : ℕ → List (List ℕ) → Archive → Vec Line Global → Type 0
AreLines day classes a lines = map line_view lines.items ≡ capture_lines a day classes

module _ {A : Type 0} (keeper : Keeper A Archive) where
  pub files_fault : (old new : A) (body : List ℕ) (day : ℕ) (classes : List (List ℕ))
      (result : Result (Vec Line Global) DeskFault) (f : DeskFault) → IsErr result → IsErrAnd result (λ x. x ≡ f)
      → MakesRecords keeper old new body day classes (Err f) → MakesRecords keeper old new body day classes result
  files_fault old new body day classes (Err e) f is same h = let P : DeskFault
      → Type 0 = λ x. MakesRecords keeper old new body day classes (Err x) in subst P (sym same) h
  files_fault old new body day classes (Ok v) f is same h = absurd (false≢true is)

  -- paths that are no classes of the archive's plan
  pub no_classes : (store : A) (plan : Listing) (body : List ℕ) (day : ℕ) (classes : List (List ℕ)) (b : Bool)
      (f : DeskFault) → ((a : Archive) → keeper.stands store a → plan ≡ a.plan) → b ≡ false
      → b ≡ list_all (has plan.rows) classes → MakesRecords keeper store store body day classes (Err f)
  no_classes store plan body day classes b f kept off is = λ a stands are.
      let P : Listing → Type 0 = λ p. AreClasses p classes in
      absurd (false≢true (sym off ∙ is ∙ subst P (sym (kept a stands)) are))

  pub file_refused : {E : Type 0} (old new : A) (body said : List ℕ) (day on : ℕ) (classes : List (List ℕ))
      (f : ArchiveFault E) → said ≡ body → on ≡ day
      → CarriesOut {E = E} keeper old new (λ a. capture a said on classes) (AreLines on classes) (Err f)
      → MakesRecords keeper old new body day classes (Err (archive_fault f))
  file_refused old new body said day on classes f b d call = λ a stands are.
      let h = call.does a stands in
      let same : capture a said on classes ≡ capture a body day classes = λ i. capture a (b i) (d i) classes in
      (h.0, λ clean. reason a body day classes f (λ r is. sym same ∙ h.1 clean r is))

  pub file_done : {E : Type 0} (old new : A) (body said : List ℕ) (day on : ℕ) (classes : List (List ℕ))
      (lines : Vec Line Global) → said ≡ body → on ≡ day
      → CarriesOut {E = E} keeper old new (λ a. capture a said on classes) (AreLines on classes) (Ok lines)
      → MakesRecords keeper old new body day classes (Ok lines)
  file_done old new body said day on classes lines b d call = λ clean a stands.
      let h = call.does clean a stands in
      let same : capture a said on classes ≡ capture a body day classes = λ i. capture a (b i) (d i) classes in
      let told_same : capture_lines a on classes ≡ capture_lines a day classes = λ i. capture_lines a (d i) classes in
      (subst (Makes (keeper.stands new)) same h.0, h.1 ∙ told_same)

  -- nothing was asked of the archive
  pub safe_same : (store : A) (body : List ℕ) (day : ℕ) (classes : List (List ℕ)) (result : Result (Vec Line Global) DeskFault)
      → IsErr result → FilesSafely keeper store store body day classes result
  safe_same store body day classes (Err e) is = record { crash = λ clean a stands image may. inl may; kept = tt }
  safe_same store body day classes (Ok v) is = absurd (false≢true is)

  safe_call : {E : Type 0} (old new : A) (body said : List ℕ) (day on : ℕ) (classes : List (List ℕ))
      (result : Result (Vec Line Global) (ArchiveFault E)) → said ≡ body → on ≡ day
      → CarriesOut {E = E} keeper old new (λ a. capture a said on classes) (AreLines on classes) result
      → keeper.clean new → (a : Archive) → keeper.stands old a → (image : keeper.remains) → keeper.may_leave new image
      → keeper.may_leave old image ⊎ KeepsMade keeper.keeps image (capture a body day classes)
  safe_call old new body said day on classes result b d call clean a stands image may =
      let P : Result Archive ArchiveRefusal → Type 0 = λ r. KeepsMade keeper.keeps image r in
      let same : capture a said on classes ≡ capture a body day classes = λ i. capture a (b i) (d i) classes in
      elim (call.crash clean a stands image may) [ inl before ↦ inl before | inr made ↦ inr (subst P same made) ]

  pub safe_refused : {E : Type 0} (old new : A) (body said : List ℕ) (day on : ℕ) (classes : List (List ℕ))
      (f : ArchiveFault E) (result : Result (Vec Line Global) DeskFault) → IsErr result → said ≡ body → on ≡ day
      → CarriesOut {E = E} keeper old new (λ a. capture a said on classes) (AreLines on classes) (Err f)
      → FilesSafely keeper old new body day classes result
  safe_refused old new body said day on classes f (Err e) is b d call =
      record { crash = safe_call old new body said day on classes (Err f) b d call; kept = tt }
  safe_refused old new body said day on classes f (Ok v) is b d call = absurd (false≢true is)

  pub safe_done : {E : Type 0} (old new : A) (body said : List ℕ) (day on : ℕ) (classes : List (List ℕ))
      (lines : Vec Line Global) → said ≡ body → on ≡ day
      → CarriesOut {E = E} keeper old new (λ a. capture a said on classes) (AreLines on classes) (Ok lines)
      → FilesSafely keeper old new body day classes (Ok lines)
  safe_done old new body said day on classes lines b d call = record {
    crash = safe_call old new body said day on classes (Ok lines) b d call;
    kept = λ clean a stands image may.
        let P : Result Archive ArchiveRefusal → Type 0 = λ r. KeepsMade keeper.keeps image r in
        let same : capture a said on classes ≡ capture a body day classes = λ i. capture a (b i) (d i) classes in
        subst P same (call.kept clean a stands image may);
  }

-- ---- captures that are shown

pub none_shown : (o : Option Flight) → IsFound o None → o ≡ None
none_shown o h = none_found o h

pub shown : (o : Option Flight) (x : FlightView) → IsFound o (Some x) → IsOnRun x.program (facts_in x.case) x.machine
    → IsShownBy o x.program x.machine
shown None x h on = absurd h
shown (Some f) x h on = let P : Facts → Type 0 = λ c. IsOnRun x.program c x.machine in (h.program, subst P h.facts on, h.steps)
