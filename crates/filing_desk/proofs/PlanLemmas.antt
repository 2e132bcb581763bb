-- Plans that are taken over, or are not.
use Rattle.std.proofs.Common.{◌≡◌, ℕ, ◌≤◌, ◌<◌, ◌⊎◌, ◌≢◌, List, length, Bool, true, false, if◌then◌else◌, Ok, Err, inl, inr, refl, sym, subst}
use Rattle.class_plan.specs.Plans.{Listing, keeps}
use Rattle.class_plan.specs.Document.{plan_of_text}
use Rattle.class_plan.specs.declared.faults.PlanFault.{PlanFault}
use Rattle.class_plan.specs.declared.faults.PlanFault.TheVariants as plans
use Rattle.class_plan.specs.declared.faults.PlanFault.TheVariants.{PathDropped}
use Rattle.record_archive.specs.Archive.{Archive, revise}
use Rattle.record_archive.specs.Calls.{Keeper}
use Rattle.record_archive.specs.declared.fault.ArchiveRefusal.TheVariants.{Plan}
use Rattle.desk_commands.specs.Answers.{Answer}
use Rattle.desk_commands.specs.Calls.{Calls}
use Rattle.desk_commands.specs.Faults.{refused_by, plan_fault}
use Rattle.desk_commands.specs.Limits.{greatest_plan}
use Rattle.desk_commands.specs.Office.{Office, OfficeStep, set_plan, IsRefused}
use Rattle.desk_commands.specs.Parts.{IsPlanOf}
use Rattle.desk_commands.specs.Standing.{plain}
use Rattle.desk_commands.specs.declared.fault.DeskFault.{DeskFault}
use Rattle.desk_commands.specs.declared.fault.DeskFault.TheVariants as faults
use Rattle.filing_desk.specs.Standing.{StandsFor, desk_keeper}
use Rattle.filing_desk.specs.declared.desk.Desk.{Desk}
use Rattle.filing_desk.proofs.ClassLemmas.{revised_keeps}
use Rattle.filing_desk.proofs.FaultLemmas.{unchanged}
use Rattle.filing_desk.proofs.StepLemmas.{IsCommand, refused_so}

dropped : (a : Archive) (p : Listing) (n : ℕ) → IsRefused (revise a p) n → (keeps a.plan p ≡ false) × (n ≡ 57)
dropped a p n h = go (keeps a.plan p) refl h
  where
    go : (b : Bool) → keeps a.plan p ≡ b
        → IsRefused (if b then Ok (record a { plan = p }) else Err (Plan PathDropped)) n → (keeps a.plan p ≡ false)
        × (n ≡ 57)
    go true e h = absurd h
    go false e h = (e, h)

-- to take over the plan of a text is to revise the plan of the archive
pub plan_command : (t : List ℕ) (p : Listing) → IsPlanOf t p → IsCommand (set_plan t) (λ a. revise a p)
plan_command t p is = record {
  for_archive = refl;
  settles = λ s new made. (p, is, made);
  refuses = λ s n h. let d = dropped s.archive p n h in inr (inr (record { plan = p; is_plan = is; drops = d.0; is_number = d.1 }));
  gives_up = λ s n trouble. (trouble, is.short);
  keeps = λ a b made q there. revised_keeps a b p q made there;
}

-- the text is no plan, or there was no memory
text_step : (s : Office) (t : List ℕ) (f : PlanFault) → length t ≤ greatest_plan
    → (f ≢ plans.NoMemory → plan_of_text t ≡ Err f) → OfficeStep s (set_plan t) (refused_by (plan_fault f)) s
text_step s t plans.NoMemory short refuses = inr (99, (inl refl, short), refl, refl)
text_step s t f short refuses = inl (refl, refl, inr (inl (record { short = short; fault = f; refuses = refuses (λ e. cc); is_number = refl })))

long_step : (s : Office) (t : List ℕ) (f : DeskFault)
    → ((greatest_plan < length t) × (f ≡ faults.PlanTooLong)) ⊎ ((length t ≤ greatest_plan) × (f ≡ faults.NoMemory))
    → OfficeStep s (set_plan t) (refused_by f) s
long_step s t f (inl h) =
    let P : DeskFault → Type 0 = λ x. OfficeStep s (set_plan t) (refused_by x) s in
    subst P (sym h.1) (inl (refl, refl, inl (h.0, refl)))
long_step s t f (inr h) =
    let P : DeskFault → Type 0 = λ x. OfficeStep s (set_plan t) (refused_by x) s in
    subst P (sym h.1) (inr (99, (inl refl, h.0), refl, refl))

module _ {A : Type 0} (keeper : Keeper A Archive) where
  pub no_text : (desk : Desk A) (t : List ℕ) (f : DeskFault) (a : Answer) → a ≡ refused_by f
      → ((greatest_plan < length t) × (f ≡ faults.PlanTooLong)) ⊎ ((length t ≤ greatest_plan) × (f ≡ faults.NoMemory))
      → Calls (desk_keeper keeper) desk (plain (set_plan t)) a desk
  no_text desk t f a told h = unchanged keeper desk (set_plan t) a
      (λ e. refused_so _ _ told) (λ s stands.
      let P : Answer → Type 0 = λ x. OfficeStep s.office (set_plan t) x s.office in
      subst P (sym told) (long_step s.office t f h))

  pub no_plan : (desk : Desk A) (t : List ℕ) (f : PlanFault) (a : Answer) → a ≡ refused_by (plan_fault f)
      → length t ≤ greatest_plan → (f ≢ plans.NoMemory → plan_of_text t ≡ Err f)
      → Calls (desk_keeper keeper) desk (plain (set_plan t)) a desk
  no_plan desk t f a told short refuses = unchanged keeper desk (set_plan t) a
      (λ e. refused_so _ _ told) (λ s stands.
      let P : Answer → Type 0 = λ x. OfficeStep s.office (set_plan t) x s.office in
      subst P (sym told) (text_step s.office t f short refuses))
