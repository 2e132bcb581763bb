-- What deeds tell of their records.
use Rattle.std.proofs.Common.{◌≡◌, ◌∙◌, ℕ, List, [], ◌∷◌, ◌++◌, Option, Some, None, sym, ap, subst, option_and_then}
use Rattle.class_plan.specs.Plans.{schedule_at}
use Rattle.class_plan.specs.declared.schedules.Schedule.{Schedule}
use Rattle.record_archive.specs.Archive.{Archive, Record, record_at}
use Rattle.record_history.specs.Events.{Destroyed, Event}
use Rattle.record_history.specs.Replay.{IsTrueOf, replay}
use Rattle.record_judge.specs.Judging.{AreTrueFrom}

-- where there is no record, nothing is told of one
pub told_of_none : (a : Archive) (n day : ℕ) (schedule : Schedule) → record_at a n ≡ None → IsTrueOf (Destroyed n day schedule) a
told_of_none a n day schedule none = λ r is. absurd (let x = sym none ∙ is in cc)

pub told_of_one : (a : Archive) (n day : ℕ) (schedule : Schedule) (r : Record) → record_at a n ≡ Some r
    → schedule_at a.plan r.path ≡ Some schedule → IsTrueOf (Destroyed n day schedule) a
told_of_one a n day schedule r is same =
    λ q found. let e : r ≡ q = (let x = sym is ∙ found in cc) in
    subst (λ (x : Record). schedule_at a.plan x.path ≡ Some schedule) e same

-- one event more
pub true_more : (a b : Archive) (es : List Event) (e : Event) → AreTrueFrom a es → replay es a ≡ Some b → IsTrueOf e.deed b
    → AreTrueFrom a (es ++ e ∷ [])
true_more a b [] e told is so = let same : b ≡ a = (let x = is in cc) in (subst (IsTrueOf e.deed) same so, λ c done. tt)
true_more a b (f ∷ es) e told is so = (
  told.0,
  λ c done.
      let rest : replay es c ≡ Some b = sym (ap (λ (o : Option Archive). option_and_then (replay es) o) done) ∙ is in
      true_more c b es e (told.1 c done) rest so,
)
