-- Disposals in volumes, one after another.
use Rattle.std.specs.Prelude.{IfSome, OnOk, is_ok, is_some}
use Rattle.std.proofs.Common.{◌≡◌, ◌∙◌, ◌||◌, ℕ, Bool, true, false, not, Option, None, Some, Result, Ok, Err, ap, refl, subst, sym, true≢false}
use Rattle.choice_words.specs.Typed.{is_named_or_none}
use Rattle.command_lines.specs.declared.archives.Disposal.{Disposal}
use Rattle.command_lines.specs.declared.archives.approvals.TypedDisposal.{TypedDisposal}
use Rattle.cli_console.specs.Failures.{GoesOn, GoesOnAfter, lets_go_on, refused_after}
use Rattle.cli_console.specs.declared.failure.Failure.{Failure}
use Rattle.cli_changes.specs.DisposalTallies.{EndsAs}
use Rattle.cli_changes.specs.declared.disposal_tally.DisposalTally.{DisposalTally}
use Rattle.cli_tasks.specs.Disposals.{IsDisposalIn, WhereAsked}

-- what is asked of a volume, where something is
pub where_some : (typed : TypedDisposal) (v : ℕ) (o : Option Disposal) (d : Disposal) (Holds : Disposal → Type 0) → o ≡ Some d
    → IfSome o (IsDisposalIn typed v) → Holds d → WhereAsked typed v Holds
where_some typed v o d Holds is asked holds = λ named. (d, subst (λ (x : Option Disposal). IfSome x (IsDisposalIn typed v)) is asked, holds)

pub where_none : (typed : TypedDisposal) (v : ℕ) (o : Option Disposal) (Holds : Disposal → Type 0) → o ≡ None
    → is_some o ≡ is_named_or_none v typed.of_volumes.items → WhereAsked typed v Holds
where_none typed v o Holds is asked = λ named. absurd (true≢false (sym named ∙ sym asked ∙ ap is_some is))

-- where nothing was refused in one more volume, it ended well there, and nothing was refused before
pub none_refused : {P : Type 0} (was now : Bool) (disposed : Result DisposalTally Failure) (done joined : Result (Unit {0}) Failure)
    → now ≡ refused_after was done → EndsAs disposed done → GoesOn done joined → is_ok joined ≡ true → OnOk disposed P → now ≡ false
    → (was ≡ false) × P
none_refused was now (Ok t) (Ok u) joined after ends goes well p none = (sym after ∙ none, p)
none_refused was now (Ok t) (Err f) joined after ends goes well p none = absurd (true≢false (sym ends))
none_refused was now (Err f) (Ok u) joined after ends goes well p none = absurd cc
none_refused {P} was now (Err f) (Err h) joined after ends goes well p none = go (lets_go_on h) after goes
  where
    go : (b : Bool) → now ≡ (b || was) → GoesOnAfter h b joined → (was ≡ false) × P
    go true e k = absurd (true≢false (sym e ∙ none))
    go false e k = absurd (true≢false (sym well ∙ ap is_ok k))

-- it ends well only where nothing was refused
pub ended_well : {P : Type 0} (r : Result (Unit {0}) Failure) (is_refused : Bool) → is_ok r ≡ not is_refused → (is_refused ≡ false → P) → OnOk r P
ended_well (Ok u) true e p = absurd (true≢false e)
ended_well (Ok u) false e p = p refl
ended_well (Err f) is_refused e p = tt
