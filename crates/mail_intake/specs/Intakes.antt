-- What an intake does with all messages.
use Rattle.std.specs.Prelude.{◌≡◌, ℕ, Bool, List, map}
use Rattle.mail_intake.specs.declared.intake.Taking.{Taking}
use Rattle.mail_intake.specs.declared.tally.Tally.{Tally}
use Rattle.mail_intake.specs.Calls.{Call, Makes}
use Rattle.mail_intake.specs.Fates.{AreThoseOf, Ending, EndsAs, Fate, IsTally, courses, whole_course}
use Rattle.mail_intake.specs.Folders.{Folders, IsEndIn, Lead, Mail}
use Rattle.mail_intake.specs.Telling.{Memory}

module _ {M : Type 0} (made : M → List Call → Type 0) (has : M → Folders → Type 0) (memory : Memory) (day : ℕ) (old new : M) where
  -- The messages of these names were looked at, one after the other, up to this ending: each has one fate, its calls were made
  -- and no others, and the folders are what the fates leave.
  pub record Passes (names : List (List ℕ)) (ending : Ending) (tally : Tally) : Type 0 where
    pub fates : List Fate
    pub order : AreThoseOf names fates ending
    pub calls : Makes made old new (courses memory day fates ending)
    pub counts : IsTally fates tally
    pub folders : (f : Folders) → has old f → Lead (λ g. IsEndIn g ending × has new g) fates f

  -- AN INTAKE: the new messages are listed, each has one fate, in the order of the listing, up to where the intake ends; the
  -- calls for these fates are made and no others, the moves are made to last, and the counts are those of the fates.
  pub record IsIntake {F : Type 0} (done : Taking F) : Type 0 where
    pub names : List (List ℕ)
    pub fates : List Fate
    pub ending : Ending
    pub is_settled : Bool
    pub order : AreThoseOf names fates ending
    pub calls : Makes made old new (whole_course memory day names fates ending is_settled)
    pub ended : EndsAs ending is_settled done.end
    pub counts : IsTally fates done.tally
    pub listed : (f : Folders) → has old f → names ≡ map (λ (m : Mail). m.name) f.fresh
    pub folders : (f : Folders) → has old f → Lead (λ g. IsEndIn g ending × has new g) fates f
