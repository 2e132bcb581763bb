-- Copies of archives, and what is answered of them.
use Rattle.std.specs.Prelude.{Result, Ok, Err, OnOk, IfOk}
use Rattle.std.proofs.Common.{◌≡◌, List, ℕ, subst}
use Rattle.class_plan.specs.Plans.{Listing}
use Rattle.sqlite.specs.Store.{Ghosts}
use Rattle.sqlite.specs.Held.{Held}
use Rattle.record_store.specs.declared.store.Store.{Store}
use Rattle.cli_tasks.specs.Copies.{CopiesTo, FillsWith, draft_at}
use Rattle.cli_tasks.specs.Works.{IsDone}

-- what is so of what was found is so of what is answered
pub found_as : {X F : Type 0} (found result : Result X F) (P : X → Type 0) → IfOk result (λ x. found ≡ Ok x) → IfOk found P
    → IfOk result P
found_as found (Ok x) P is p = subst (λ r. IfOk r P) is p
found_as found (Err failure) P is p = tt

-- what is so where it was done is so where more was done after it
pub done_before : {X Y F : Type 0} (P : Type 0) (y : Y) (done : Result Y F) (result : Result X F) → OnOk result (done ≡ Ok y) → OnOk done P
    → OnOk result P
done_before P y done (Ok x) is p = subst (λ r. OnOk r P) is p
done_before P y done (Err failure) is p = tt

-- what was made of an archive where that ended well
pub where_done : {S X F : Type 0} (WasThere : Store S → Type 0) (Made : Store S → Held S → Type 0) (result : Result X F)
    → IsDone WasThere (λ before after. OnOk result (Made before after)) → OnOk result (IsDone WasThere Made)
where_done WasThere Made (Ok x) d = d
where_done WasThere Made (Err failure) d = tt

-- what was read of a store is copied with the plan that it has then
pub copied_to : {S T X F : Type 0} (g : Ghosts S) (h : Ghosts T) (IsAt : List ℕ → Store T → Type 0) (path : List ℕ)
    (before read : Store S) (plan : Listing) (from after : Held S) (result : Result X F) → plan ≡ read.plan → from ≡ read.conn
    → OnOk result (IsDone (IsAt (draft_at path)) (FillsWith g h plan from after)) → OnOk result (CopiesTo g h IsAt path before after)
copied_to {S} g h IsAt path before read plan from after (Ok x) plan_is from_is done = record {
  read = read;
  copied = subst (λ (p : Listing). IsDone (IsAt (draft_at path)) (FillsWith g h p read.conn after)) plan_is
      (subst (λ (k : Held S). IsDone (IsAt (draft_at path)) (FillsWith g h plan k after)) from_is done);
}
copied_to g h IsAt path before read plan from after (Err failure) plan_is from_is done = tt
