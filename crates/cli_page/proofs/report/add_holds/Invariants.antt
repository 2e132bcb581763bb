use Rattle.std.proofs.Common.{◌≡◌, ◌++◌, ℕ, List, drop, map}
use Rattle.cli_page.specs.KeptNumbers.{kept_by, numbers_for}
use Rattle.cli_page.proofs.report.add_holds.Given as goal

abbrev pub invariant-loop-name : goal.invariant-loop-name
invariant-loop-name l =
    (n : List ℕ) → kept_by n l.holds.holds.entries ++ numbers_for n (map (λ h. h.items) (drop l.name-index l.record.holds.now))
    (l.record.volume, l.record.number)
    ≡ kept_by n l.initial.holds.holds.entries ++ numbers_for n (map (λ h. h.items) l.record.holds.now) (l.record.volume, l.record.number)
