use Rattle.std.proofs.Common.{◌≡◌, ◌++◌, drop, map}
use Rattle.cli_page.specs.DueLists.{more_names}
use Rattle.cli_page.proofs.due_list.push_more_names.Given as goal

abbrev pub invariant-loop-name : goal.invariant-loop-name
invariant-loop-name l =
    l.page ++ more_names (map (λ h. h.items) (drop l.name-index l.holds)) ≡ l.initial.page ++ more_names (map (λ h. h.items) l.holds)
