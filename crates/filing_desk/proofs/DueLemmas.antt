-- Due lists, and days by their numbers.
use Rattle.std.proofs.Common.{◌≡◌, ◌⊎◌, ℕ, ℤ, List, map, pos, false, Ok, Err, Vec, inl, inr, refl, ap, sym, ◌∙◌, subst}
use Rattle.std.proofs.lemmas.Bool.{false≢true}
use Rattle.std.specs.declared.alloc.Global.{Global}
use Rattle.record_archive.specs.Archive.{Archive, Line, due_list, due_list_on}
use Rattle.record_archive.specs.Lines.{line_view}
use Rattle.record_archive.specs.declared.line.Line as code
use Rattle.record_archive.specs.Calls.{CarriesOut, Keeper, KeepsMade, unchanged}
use Rattle.record_archive.specs.Faults.{WhereRefused}
use Rattle.record_archive.specs.declared.fault.ArchiveFault.{ArchiveFault}
use Rattle.record_archive.specs.declared.fault.ArchiveFault.TheVariants.{Refused, Database, NoMemory}
use Rattle.desk_commands.specs.Answers.{Answer, listed}
use Rattle.desk_commands.specs.ArchiveAnswers.{is_refused_outside}
use Rattle.desk_commands.specs.Calls.{Calls}
use Rattle.desk_commands.specs.Faults.{refused_by, archive_fault}
use Rattle.desk_commands.specs.Office.{OfficeStep, due}
use Rattle.desk_commands.specs.Standing.{Standing, Step, plain}
use Rattle.filing_desk.specs.Filing.{IsArchiveFault}
use Rattle.filing_desk.specs.Standing.{StandsFor, desk_keeper}
use Rattle.filing_desk.specs.declared.desk.Desk.{Desk}
use Rattle.filing_desk.proofs.ArchiveLemmas.{fault_told}
use Rattle.filing_desk.proofs.StepLemmas.{Crashes, KeepsRest, no_stay, of_archive, plain_calls, refused_so, still_stands}

-- the answer to a due list
abbrev IsDueList : (day : ℤ) → Archive → Vec code.Line Global → Type 0
IsDueList day a v = map line_view v.items ≡ due_list_on a day

-- the database or the memory refuses, and never the archive
given_up : {E : Type 0} (s : Standing) (n : ℕ) (f : ArchiveFault E)
    → WhereRefused (λ r. unchanged s.office.archive ≡ Err r) f
    → OfficeStep s.office (due n) (refused_by (archive_fault f)) s.office
given_up s n (Refused r) refuses = absurd (let other : unchanged s.office.archive ≡ Err r = refuses r refl in cc)
given_up s n (Database e) refuses = inr (89, inr refl, refl, refl)
given_up s n NoMemory refuses = inr (99, inl refl, refl, refl)

due_step : (s : Standing) (n : ℕ) (lines : List Line) → lines ≡ due_list s.office.archive n → Step s (plain (due n)) (listed lines) s
unfolding Step
due_step s n lines is = (s.office, inl (refl, is), refl)

same_made : {a b : Archive} → unchanged a ≡ Ok b → a ≡ b
same_made e = cc

-- the same, where only a refusal of the archive itself is known to be right
either_given_up : {E : Type 0} (s : Standing) (n : ℕ) (f : ArchiveFault E) → IsArchiveFault (archive_fault f)
    → (is_refused_outside (refused_by (archive_fault f)) ≡ false
    → WhereRefused (λ r. unchanged s.office.archive ≡ Err r) f)
    → OfficeStep s.office (due n) (refused_by (archive_fault f)) s.office
either_given_up s n f (inl trouble) refuses = inr (trouble.0, trouble.1, trouble.2, refl)
either_given_up s n f (inr inside) refuses = given_up s n f (refuses inside)

module _ {A : Type 0} (keeper : Keeper A Archive) where
  -- a due list changes nothing
  crashes_due : (old new : Desk A) (n : ℕ)
      → (keeper.clean new.store → (a : Archive) → keeper.stands old.store a → (image : keeper.remains) → keeper.may_leave new.store image
      → keeper.may_leave old.store image ⊎ KeepsMade keeper.keeps image (unchanged a))
      → Crashes keeper old new (plain (due n))
  crashes_due old new n crash clean s stands image may =
      elim (crash clean s.office.archive stands.store image may) [
        | inl before ↦ inl before
        | inr made ↦
            let P : Archive → Type 0 = λ x. keeper.keeps image x in
            inr (
              listed (due_list s.office.archive n),
              record {
                to = s;
                is_one = due_step s n (due_list s.office.archive n) refl;
                kept = subst P (sym (same_made made.1)) made.2;
              },
            )
      ]

  pub due_told : {E : Type 0} (old new : Desk A) (n : ℕ) (lines : Vec code.Line Global)
      → KeepsRest keeper old new → new.open_paths ≡ old.open_paths
      → CarriesOut {E = E} keeper old.store new.store unchanged (IsDueList (pos n)) (Ok lines)
      → Calls (desk_keeper keeper) old (plain (due n)) (listed (map line_view lines.items)) new
  due_told old new n lines rest same call =
      plain_calls keeper old new (due n) (listed (map line_view lines.items)) call.was_clean (λ sure s stands.
      let clean : keeper.clean new.store = sure refl in
      let h = call.does clean s.office.archive stands.store in
      (s.office, inl (refl, h.1), still_stands keeper old new s rest same stands h.0)) (λ refused. absurd
      (false≢true refused))
      (crashes_due old new n call.crash)
      (λ from_archive told clean s stands image may.
      let P : Archive → Type 0 = λ x. keeper.keeps image x in
      let made = call.kept clean s.office.archive stands.store image may in
      record { to = s; is_one = due_step s n _ (call.does clean s.office.archive stands.store).1; kept = subst P (sym (same_made made.1)) made.2 })

  pub due_given_up : {E : Type 0} (old new : Desk A) (n : ℕ) (day : ℤ) (f : ArchiveFault E) (a : Answer)
      → KeepsRest keeper old new → new.open_paths ≡ old.open_paths
      → CarriesOut {X = Vec code.Line Global} {E = E} keeper old.store new.store unchanged (IsDueList day)
      (Err f) → a ≡ refused_by (archive_fault f) → Calls (desk_keeper keeper) old (plain (due n)) a new
  due_given_up old new n day f a rest same call is_told = plain_calls keeper old new (due n) a call.was_clean (λ
      sure s stands.
      let h = call.does s.office.archive stands.store in
      let P : Answer → Type 0 = λ x. OfficeStep s.office (due n) x s.office in
      let step : OfficeStep s.office (due n) (refused_by (archive_fault f)) s.office =
      either_given_up s n f (fault_told f) (λ inside.
      h.1 (sure (of_archive (due n) a refl (ap is_refused_outside is_told ∙ inside)))) in
      (s.office, subst P (sym is_told) step, still_stands keeper old new s rest same stands h.0))
      (λ refused s stands.
      still_stands keeper old new s rest same stands (call.does s.office.archive stands.store).0)
      (crashes_due old new n call.crash)
      (λ from_archive other. no_stay keeper old new (plain (due n)) a (refused_so _ _ is_told) other)
