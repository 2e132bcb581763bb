-- The definitions on worked rows.
use Rattle.std.proofs.Common.{◌≡◌, ℕ, pos, true, false, List, [], ◌∷◌, map, codes, Some, None, refl}
use Rattle.std.specs.Str.{bytes_eq}
use Rattle.class_plan.specs.declared.schedules.Action.TheVariants.{Destroy}
use Rattle.class_plan.specs.declared.schedules.Schedule.TheVariants.{Permanent, After}
use Rattle.class_plan.specs.declared.schedules.Unit.TheVariants.{Days}
use Rattle.class_plan.specs.Plans.{open_row}
use Rattle.record_archive.specs.Archive.{Archive, Record}
use Rattle.record_choice.specs.Choices.{Question, Choice, anyone, named, every_record, chosen}

-- record 1 falls due on day 110 and 4, which is held, on day 113. Record 2 is destroyed, but its message is that of
-- record 1. Record 3 is held, and its class is permanent.
abbrev worked : Archive
worked = record {
  plan = record {
    root = Permanent;
    rows = record { path = codes "a"; is_open = true; schedule = Some (After 10 Days Destroy false) }
        ∷ open_row (codes "a/b") ∷ open_row (codes "ab") ∷ [];
  };
  messages = record { number = 1; body = codes "tax" } ∷ record { number = 3; body = codes "rent" }
      ∷ record { number = 4; body = codes "tax" } ∷ [];
  records = record { number = 1; message = 1; path = codes "a"; day = 100; destroyed = false }
      ∷ record { number = 2; message = 1; path = codes "a/b"; day = 101; destroyed = true }
      ∷ record { number = 3; message = 3; path = codes "ab"; day = 102; destroyed = false }
      ∷ record { number = 4; message = 4; path = codes "a/b"; day = 103; destroyed = false } ∷ [];
  holds = record { name = codes "court"; number = 4 } ∷ record { name = codes "audit"; number = 3 } ∷ [];
}

abbrev is_tax : Question
is_tax = Some (λ body. bytes_eq body (codes "tax"))

abbrev is_rent : Question
is_rent = Some (λ body. bytes_eq body (codes "rent"))

-- each question and choice, and the numbers of the records that are chosen
abbrev rows : List (Question × Choice × List ℕ)
rows =
    (None, every_record, 1 ∷ 2 ∷ 3 ∷ 4 ∷ []) ∷
    (None, record every_record { numbers = Some (record { first = 1; last = 2 } ∷ record { first = 4; last = 4 } ∷ []) }, 1 ∷ 2 ∷ 4 ∷ []) ∷
    (None, record every_record { numbers = Some (record { first = 3; last = 2 } ∷ []) }, []) ∷
    (None, record every_record { class = Some (codes "a") }, 1 ∷ 2 ∷ 4 ∷ []) ∷
    (None, record every_record { class = Some (codes "a/b") }, 2 ∷ 4 ∷ []) ∷
    (None, record every_record { live = true }, 1 ∷ 3 ∷ 4 ∷ []) ∷
    (None, record every_record { destroyed = true }, 2 ∷ []) ∷
    (None, record every_record { live = true; destroyed = true }, []) ∷
    (None, record every_record { held = Some anyone }, 3 ∷ 4 ∷ []) ∷
    (None, record every_record { held = Some (named (codes "court")) }, 4 ∷ []) ∷
    (None, record every_record { held = Some (named (codes "cour")) }, []) ∷
    (None, record every_record { since = Some (pos 101) }, 2 ∷ 3 ∷ 4 ∷ []) ∷
    (None, record every_record { until = Some (pos 101) }, 1 ∷ 2 ∷ []) ∷
    (None, record every_record { due = Some (pos 109) }, []) ∷
    (None, record every_record { due = Some (pos 112) }, 1 ∷ []) ∷
    (None, record every_record { due = Some (pos 113) }, 1 ∷ 4 ∷ []) ∷
    (is_tax, every_record, 1 ∷ 4 ∷ []) ∷
    (is_rent, every_record, 3 ∷ []) ∷
    (is_tax, record every_record { destroyed = true }, []) ∷
    (is_tax, record every_record { class = Some (codes "a"); since = Some (pos 102) }, 4 ∷ []) ∷
    []

chosen_are : map (λ r. map (λ (x : Record). x.number) (chosen r.0 r.1 worked)) rows ≡ map (λ r. r.2) rows
chosen_are = refl
