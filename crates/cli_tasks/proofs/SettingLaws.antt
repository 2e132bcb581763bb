-- A plan that is judged before it replaces the present one.
use Rattle.std.specs.Prelude.{IfOk, MatchResult}
use Rattle.std.proofs.Common.{◌≡◌, ◌∙◌, Bool, true, false, Result, Ok, Err, OnOk, is_ok, subst, sym, true≢false}
use Rattle.sqlite.specs.Store.{Ghosts}
use Rattle.class_plan.specs.Plans.{Listing, keeps}
use Rattle.record_archive.specs.Archive.{Archive}
use Rattle.record_ledger.specs.Ledgers.{keeper_of, kept_plan, store_of}
use Rattle.record_ledger.specs.declared.ledger.Ledger.{Ledger}
use Rattle.cli_changes.specs.Replacements.{Replaces}
use Rattle.cli_changes.specs.Series.{KeepsAll}
use Rattle.cli_console.specs.declared.failure.Failure.{Failure}
use Rattle.cli_tasks.specs.Changes.{MayReplace}

-- a call that succeeds exactly where this is true
pub succeeds_if : {X Y : Type 0} {P : X → Type 0} {Q : Y → Type 0} (b : Bool) (r : Result X Y) → MatchResult r P Q
    → ((x : X) → P x → b ≡ true) → ((y : Y) → Q y → b ≡ false) → is_ok r ≡ b
succeeds_if b (Ok x) m well bad = sym (well x m)
succeeds_if b (Err y) m well bad = sym (bad y m)

-- what is so of what was done is so of it where it is handed on
pub handed_on : {X F : Type 0} (P : Type 0) (done result : Result X F) → IfOk result (λ x. done ≡ Ok x) → OnOk done P → OnOk result P
handed_on {X} {F} P done (Ok x) same p = subst (λ (r : Result X F). OnOk r P) same p
handed_on P done (Err failure) same p = tt

module _ {S K : Type 0} (g : Ghosts S) where
  pub kept_as_it_is : (ledger : Ledger S K) → KeepsAll (keeper_of g) ledger ledger
  kept_as_it_is ledger = record { stands = λ a stands. stands; falls = λ clean. clean }

  -- a plan that has the classes of that of a ledger
  pub fits : (ledger : Ledger S K) (plan : Listing) → keeps (store_of ledger.kept).plan plan ≡ true → MayReplace g ledger ledger plan
  fits ledger plan has = λ clean (a : Archive) kept.
      (kept, subst (λ (p : Listing). keeps p plan ≡ true) (kept_plan g ledger.kept a kept) has)

  -- one that has not replaces it in no archive
  pub lacks : (old new : Ledger S K) (plan copied : Listing) (result : Result (Unit {0}) Failure) → copied ≡ plan
      → keeps (store_of old.kept).plan plan ≡ false → OnOk result (Replaces (keeper_of g) old new copied)
      → OnOk result (MayReplace g old new plan)
  lacks old new plan copied (Ok x) same lack done = λ clean (a : Archive) kept.
      let has : keeps a.plan plan ≡ true = subst (λ (p : Listing). keeps a.plan p ≡ true) same (done clean a kept).1 in
      let none : keeps a.plan plan ≡ false = subst (λ (p : Listing). keeps p plan ≡ false) (kept_plan g old.kept a kept) lack in
      absurd (true≢false (sym has ∙ none))
  lacks old new plan copied (Err failure) same lack done = tt
