-- What refilings change in two stores, on worked rows.
use Rattle.std.proofs.Common.{◌≡◌, ◌-◌, ◌^◌, false, refl, true, ℕ}
use Rattle.cli_changes.specs.Moves.{moves_in_both, no_moves}
use Rattle.cli_changes.specs.declared.due_today.DueToday.{DueToday}
use Rattle.cli_changes.specs.declared.refile.MoveTally.{MoveTally}

-- so many are due, of which so many may be destroyed
abbrev due : (all destroyable : ℕ) → DueToday
due all destroyable = record { all = all; destroyable = destroyable }

-- so many records move, of which one is due before, and so many are after
abbrev moved : (count after : ℕ) → MoveTally
moved count after = record { count = count; before = due 1 0; after = due after 1; is_refused = false }

-- it is refused where it is in one store
both_are : moves_in_both (moved 3 2) (record (moved 4 0) { is_refused = true })
    ≡ record { count = 7; before = due 2 0; after = due 2 2; is_refused = true }
both_are = refl

nothing_added : moves_in_both no_moves (moved 3 2) ≡ moved 3 2
nothing_added = refl

no_more : (moves_in_both (moved (2 ^ 64 - 1) 2) (moved 1 0)).count ≡ 2 ^ 64 - 1
no_more = refl
