-- The tests by which rows are judged.
use Rattle.std.specs.Prelude.{ℕ, ◌+◌, ◌==◌, nat_le, nat_lt, Bool, true, ◌&&◌, if◌then◌else◌, List, [], ◌∷◌}
use Rattle.std.specs.Ordering.{nat_cmp, is_lt}
use Rattle.std.specs.Cmp.Lexicographic.{slice_cmp}
use Rattle.class_plan.specs.Plans.{Listing, has}
use Rattle.record_archive.specs.Archive.{Record}
use Rattle.record_tables.specs.Reads.{HoldEntry}

abbrev pub is_sound : Listing → Record → Bool
is_sound p r = nat_le 1 r.number && nat_le 1 r.message && nat_le r.message r.number && nat_le r.day 84005 &&
    has p.rows r.path

-- each number is at least the given one, and above those before it
abbrev pub rises_from : ℕ → List ℕ → Bool
rises_from n [] = true
rises_from n (x ∷ xs) = nat_le n x && rises_from (x + 1) xs

abbrev pub hold_rises : HoldEntry → HoldEntry → Bool
hold_rises a b = if a.number == b.number then is_lt (slice_cmp nat_cmp a.name b.name) else nat_lt a.number b.number

-- each hold comes after the one before it
abbrev pub rises_over : HoldEntry → List HoldEntry → Bool
rises_over h [] = true
rises_over h (x ∷ xs) = hold_rises h x && rises_over x xs

abbrev pub rises_after : List HoldEntry → Bool
rises_after [] = true
rises_after (h ∷ hs) = rises_over h hs
