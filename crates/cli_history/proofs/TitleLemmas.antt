-- The title of a class after an event.
use Rattle.std.proofs.Common.{◌≡◌, Bool, true, false, cond, Option, Some, None, option_map, refl}
use Rattle.record_history.specs.Titles.{Title, last_title}
use Rattle.cli_history.specs.Titles.{title_view}
use Rattle.cli_history.specs.declared.titles.Kept.{Kept}

pub kept_or_given : (b : Bool) (t : Title) (before : Option Title) → cond b (Some t) before ≡ last_title before (cond b (Some t) None)
kept_or_given true t before = refl
kept_or_given false t None = refl
kept_or_given false t (Some u) = refl

pub mapped : (b : Bool) (k : Kept) (before : Option Kept)
    → option_map title_view (cond b (Some k) before) ≡ cond b (Some (title_view k)) (option_map title_view before)
mapped true k before = refl
mapped false k before = refl
