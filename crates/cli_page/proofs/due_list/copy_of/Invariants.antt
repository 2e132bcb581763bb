use Rattle.std.proofs.Common.{◌≡◌, ◌++◌, drop, map}
use Rattle.cli_page.proofs.due_list.copy_of.Given as goal

abbrev pub invariant-loop-name : goal.invariant-loop-name
invariant-loop-name l = map (λ n. n.items) l.names.items ++ map (λ h. h.items) (drop l.name-index l.holds) ≡ map (λ h. h.items) l.holds
