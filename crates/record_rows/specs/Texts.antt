-- The rows of version 1, in which schedules are texts: that of the root is a setting, and those of the classes are in
-- the rows of the classes.
use Rattle.std.specs.Prelude.{◌≡◌, ℕ, List, [], ◌∷◌, map, Option, Some, None, option_map}
use Rattle.class_plan.specs.Plans.{Row, Listing, IsPlan}
use Rattle.class_plan.specs.Texts.{◌>>=◌, schedule_of_bytes, text_of}
use Rattle.record_tables.specs.Changes.{ClassEntry, Rule}
use Rattle.record_rows.specs.Rules.{rule_at}

-- the row of a class
abbrev pub text_row : Row → ClassEntry
text_row r = record { path = r.path; is_open = r.is_open; schedule = option_map text_of r.schedule }

-- the root's text and the rows of the classes are those of the plan
pub record HasTexts (p : Listing) (root : List ℕ) (classes : List ClassEntry) : Type 0 where
  pub same_root : text_of p.root ≡ root
  pub same_classes : map text_row p.rows ≡ classes

-- no plan has these rows
abbrev pub HasNoTexts : List ℕ → List ClassEntry → Type 0
HasNoTexts root classes = (p : Listing) → IsPlan p → HasTexts p root classes → ⊥

-- ---- the same rows in version 2

-- the row of a class, whose schedule has a row of its own
abbrev pub without_schedule : ClassEntry → ClassEntry
without_schedule c = record { path = c.path; is_open = c.is_open; schedule = None }

-- the row of the schedule of a class's text, if it has one, before others; None where the text is no schedule's
abbrev pub with_text : List ℕ → Option (List ℕ) → Option (List Rule) → Option (List Rule)
with_text q None rest = rest
with_text q (Some t) rest = do
  s ← schedule_of_bytes t
  rs ← rest
  Some (rule_at q s ∷ rs)

abbrev pub text_rules : List ClassEntry → Option (List Rule)
text_rules [] = Some []
text_rules (c ∷ cs) = with_text c.path c.schedule (text_rules cs)

-- the rows of the schedules; None where a text is no schedule's
abbrev pub rules_of_texts : List ℕ → List ClassEntry → Option (List Rule)
rules_of_texts root cs = do
  s ← schedule_of_bytes root
  rs ← text_rules cs
  Some (rule_at [] s ∷ rs)
