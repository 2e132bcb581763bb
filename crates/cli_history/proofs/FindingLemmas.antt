-- What is unaccepted after some events is what the stage says.
use Rattle.std.proofs.Common.{◌≡◌, ◌&&◌, ◌||◌, not, cond, Bool, true, false, List, [], ◌∷◌, refl, ap, ◌∙◌}
use Rattle.std.specs.List.{list_any}
use Rattle.record_history.specs.Events.{Event}
use Rattle.cli_history.specs.declared.findings.Bearing.{Bearing}
use Rattle.cli_history.specs.declared.findings.Bearing.TheVariants.{Plan, Detail, Acceptance, Neither}
use Rattle.cli_history.specs.declared.findings.Stage.{Stage}
use Rattle.cli_history.specs.declared.findings.Stage.TheVariants.{Beginning, Settled, Unaccepted}
use Rattle.cli_history.specs.declared.opening.Purpose.{Purpose}
use Rattle.cli_history.specs.Reasons.{ends}
use Rattle.cli_history.specs.Findings.{bearing, is_unknown, accepts, has_unaccepted, behind_details, is_unaccepted, is_blocked}
use Rattle.cli_history.specs.Findings.{is_detail, is_acceptance, is_found}
use Rattle.cli_history.specs.Findings.{stage_behind, stage_from, stage_of, is_open_at, is_plan}

or_none : (a : Bool) → a ≡ (a || false)
or_none true = refl
or_none false = refl

or_again : (a b : Bool) → (a || b) ≡ ((a || b) || b)
or_again true b = refl
or_again false true = refl
or_again false false = refl

or_none_twice : (a : Bool) → a ≡ ((a || false) || false)
or_none_twice true = refl
or_none_twice false = refl

or_none_or : (a b : Bool) → (a || b) ≡ ((a || false) || b)
or_none_or true b = refl
or_none_or false b = refl

abbrev none_accepts : List Event → Bool
none_accepts es = not (list_any accepts es)

abbrev here : Bearing → List Event → Bool
here b es = has_unaccepted es || (is_found b && none_accepts es)

-- where nothing is unaccepted, and where something is
abbrev AfterSettled : List Event → Type 0
AfterSettled es = is_open_at (stage_from Settled es) ≡ has_unaccepted es

abbrev AfterUnaccepted : List Event → Type 0
AfterUnaccepted es = is_open_at (stage_from Unaccepted es) ≡ (has_unaccepted es || none_accepts es)

settled_by : (b : Bearing) (es : List Event) → AfterSettled es → AfterUnaccepted es
    → is_open_at (stage_from (stage_behind false b) es) ≡ here b es
settled_by Plan es s u = u
settled_by Detail es s u = u
settled_by Acceptance es s u = s ∙ or_none (has_unaccepted es)
settled_by Neither es s u = s ∙ or_none (has_unaccepted es)

open_by : (b : Bearing) (es : List Event) → AfterSettled es → AfterUnaccepted es
    → is_open_at (stage_from (stage_behind true b) es) ≡ (here b es || not (is_acceptance b || list_any accepts es))
open_by Plan es s u = u ∙ or_again (has_unaccepted es) (none_accepts es)
open_by Detail es s u = u ∙ or_again (has_unaccepted es) (none_accepts es)
open_by Acceptance es s u = s ∙ or_none_twice (has_unaccepted es)
open_by Neither es s u = u ∙ or_none_or (has_unaccepted es) (none_accepts es)

pub both : (es : List Event) → AfterSettled es × AfterUnaccepted es
both [] = (refl, refl)
both (e ∷ es) = let h = both es in (settled_by (bearing e.deed) es h.0 h.1, open_by (bearing e.deed) es h.0 h.1)

in_beginning : (es : List Event) → is_open_at (stage_from Beginning es) ≡ has_unaccepted (behind_details es)
in_beginning [] = refl
in_beginning (e ∷ es) = go (is_detail (bearing e.deed)) (in_beginning es)
  where
    go : (b : Bool) → is_open_at (stage_from Beginning es) ≡ has_unaccepted (behind_details es)
        → is_open_at (stage_from (cond b Beginning (stage_behind false (bearing e.deed))) es)
        ≡ has_unaccepted (cond b (behind_details es) (e ∷ es))
    go true rest = rest
    go false rest = (both (e ∷ es)).0

-- THE STAGE TELLS whether something that was found is not accepted
pub stage_tells : (es : List Event) → is_open_at (stage_of es) ≡ is_unaccepted es
stage_tells [] = refl
stage_tells (e ∷ es) = go (is_plan (bearing e.deed) && not (is_unknown e.who))
  where
    go : (b : Bool) → is_open_at (stage_from (cond b Beginning (stage_behind false (bearing e.deed))) es)
        ≡ has_unaccepted (cond b (behind_details es) (e ∷ es))
    go true = in_beginning es
    go false = (both (e ∷ es)).0

-- what is refused at a stage
pub blocked_at : (p : Purpose) (stage : Stage) (es : List Event) → stage ≡ stage_of es
    → (ends p && is_open_at stage) ≡ is_blocked p es
blocked_at p stage es same = ap (λ b. ends p && b) (ap is_open_at same ∙ stage_tells es)
