-- Which classes a new plan adds, closes, opens, or gives another schedule, and the line for each.
use Rattle.std.specs.Prelude.{ℕ, Bool, true, false, ◌&&◌, if◌then◌else◌, List, [], ◌∷◌, ◌++◌, flat_map, codes}
use Rattle.std.specs.Prelude.{Option, Some, None, is_none, option_map}
use Rattle.std.specs.Str.{bytes_eq}
use Rattle.class_plan.specs.Plans.{Listing, Row, schedule_at, is_open_in}
use Rattle.class_plan.specs.Texts.{text_of}
use Rattle.cli_texts.specs.Words.{words, name, escaped}
use Rattle.cli_changes.specs.declared.class_changes.ClassState.{ClassState}

-- what a plan says of a class: whether it is open, and the text of its schedule, its own or the one that it takes from above
pub record ClassView : Type 0 where
  pub is_open : Bool
  pub schedule : List ℕ

abbrev pub state_view : ClassState → ClassView
state_view s = record { is_open = s.is_open; schedule = s.schedule.items }

-- the class of a path in a plan, if there is one
abbrev pub class_in : Listing → (path : List ℕ) → Option ClassView
class_in plan path = option_map (λ s. record { is_open = is_open_in plan path; schedule = text_of s }) (schedule_at plan path)

-- WHAT BECOMES OF A CLASS, by whether it was open, if there was one, and whether it is
abbrev pub word_for : (was_open : Option Bool) → (is_open : Bool) → Option (List ℕ)
word_for None true = Some (codes "new")
word_for None false = Some (codes "new and closed")
word_for (Some true) true = None
word_for (Some true) false = Some (codes "closed")
word_for (Some false) true = Some (codes "open again")
word_for (Some false) false = None

abbrev pub class_word : (before : Option ClassView) → ClassView → Option (List ℕ)
class_word before after = word_for (option_map (λ b. b.is_open) before) after.is_open

abbrev pub is_same_schedule : (before : Option ClassView) → ClassView → Bool
is_same_schedule None after = false
is_same_schedule (Some before) after = bytes_eq before.schedule after.schedule

-- ---- the line

abbrev pub word_words : Option (List ℕ) → List ℕ
word_words None = []
word_words (Some word) = words (codes " ") ++ words word

-- what stands between that word, if there is one, and the schedule
abbrev pub between : Option (List ℕ) → List ℕ
between None = codes " "
between (Some word) = codes ", "

abbrev pub before_words : Option ClassView → List ℕ
before_words None = []
before_words (Some before) = words (codes ", before ") ++ escaped before.schedule

-- the new schedule and the one before, where they are not the same
abbrev pub schedule_words : (before : Option ClassView) → ClassView → List ℕ
schedule_words before after =
    if is_same_schedule before after then []
    else words (between (class_word before after)) ++ escaped after.schedule ++ before_words before

unfoldable pub class_line : (path : List ℕ) → (before : Option ClassView) → ClassView → List ℕ
class_line path before after =
    words (codes "class ") ++ name path ++ words (codes ":") ++ word_words (class_word before after) ++ schedule_words before after ++ 10 ∷ []

-- A LINE FOR A CLASS that is new, closed, open again, or has another schedule, and for no other
abbrev pub line_if_changed : (path : List ℕ) → (before after : Option ClassView) → List ℕ
line_if_changed path before None = []
line_if_changed path before (Some after) =
    if is_same_schedule before after && is_none (class_word before after) then [] else class_line path before after

-- THE CLASSES THAT A NEW PLAN CHANGES, in byte order of their paths
abbrev pub class_lines : (present new : Listing) → List ℕ
class_lines present new = flat_map (λ (r : Row). line_if_changed r.path (class_in present r.path) (class_in new r.path)) new.rows
