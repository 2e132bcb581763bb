-- What a report counts.
use Rattle.std.specs.Prelude.{◌≡◌, ℕ, Bool, false, List, ◌+◌, ◌&&◌, not, nat_le, is_some, Option, Some, None, if◌then◌else◌, count_by, length}
use Rattle.cli_page.specs.declared.dates.DueDay.{DueDay}
use Rattle.cli_page.specs.declared.counts.Seen.{Seen}
use Rattle.cli_page.specs.declared.counts.Counts.{Counts}

abbrev pub is_live : Seen → Bool
is_live s = not s.is_destroyed

-- live, and kept by a hold
abbrev pub is_kept : Seen → Bool
is_kept s = is_live s && s.is_held

-- live, with a due date
abbrev pub is_dated : Seen → Bool
is_dated s = is_live s && is_some s.due

abbrev pub is_by : ℕ → Option DueDay → Bool
is_by day None = false
is_by day (Some due) = nat_le due.day day

-- live, and due by a day
abbrev pub is_due : ℕ → Seen → Bool
is_due day s = is_live s && is_by day s.due

-- one where that is so
abbrev pub one_if : Bool → ℕ
one_if b = if b then 1 else 0

abbrev pub no_records : Counts
no_records = record { records = 0; live = 0; held = 0; destroyed = 0; dated = 0; due = 0 }

-- the counts with one record more
abbrev pub counted : ℕ → Counts → Seen → Counts
counted day c s = record {
  records = c.records + 1;
  live = c.live + one_if (is_live s);
  held = c.held + one_if (is_kept s);
  destroyed = c.destroyed + one_if s.is_destroyed;
  dated = c.dated + one_if (is_dated s);
  due = c.due + one_if (is_due day s);
}

-- the counts are those of these records
pub record IsCountOf (day : ℕ) (seen : List Seen) (c : Counts) : Type 0 where
  pub records : c.records ≡ length seen
  pub live : c.live ≡ count_by is_live seen
  pub held : c.held ≡ count_by is_kept seen
  pub destroyed : c.destroyed ≡ count_by (λ s. s.is_destroyed) seen
  pub dated : c.dated ≡ count_by is_dated seen
  pub due : c.due ≡ count_by (is_due day) seen
